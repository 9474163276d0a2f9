-- Whose each module and each instance is, and who may ask for what.
use Rattle.std.specs.Prelude.{◌⊎◌, ℕ, ◌++◌, ◌==◌, Bool, not, cond, List, [], ◌∷◌, filter, Contains, ⊤, Ok, Err, None}
use Rattle.wh_space_model.specs.declared.plain.InstId.{InstId}
use Rattle.wh_host.specs.declared.parts.ModuleId.{ModuleId}
use Rattle.wh_host.specs.declared.error.HostError.TheVariants.{NoInstance}
use Rattle.wh_host.specs.declared.error.UnloadError.TheVariants as unloading
use Rattle.wh_admit.specs.declared.error.AdmitError.TheVariants.{NoModule}
use Rattle.wh_admit.specs.declared.fork_error.ForkError.TheVariants as forking
use Rattle.wh_host.specs.declared.error.ReadError.TheVariants as reading
use Rattle.wh_desk.specs.declared.error.DeskReadError.TheVariants.{Host}
use Rattle.wh_desk.specs.declared.error.ExportsError.TheVariants as exporting
use Rattle.wh_desk.specs.declared.principal.Principal.{Principal}
use Rattle.wh_desk.specs.declared.principal.Principal.TheVariants.{Operator, Tenant}
use Rattle.wh_desk.specs.declared.ownership.OwnedInstance.{OwnedInstance}
use Rattle.wh_desk.specs.declared.ownership.OwnedModule.{OwnedModule}
use Rattle.wh_desk.specs.declared.ownership.Ownership.{Ownership}
use Rattle.wh_desk.specs.declared.trace.Question.{Question}
use Rattle.wh_desk.specs.declared.trace.Question.TheVariants.{Load, Unload, Admit, Fork, Invoke, InvokeAt, Refuel, Cancel, Retry, Release, BeginEpoch, Status, Report, Usage, UsageOf, Transcript, Output, Ends, Exports, Read}
use Rattle.wh_desk.specs.declared.request.DeskReply.{DeskReply}
use Rattle.wh_desk.specs.declared.request.DeskReply.TheVariants as says

-- the modules and the instances that are there, each with whose it is
pub record OwnershipState : Type 0 where
  pub modules : List OwnedModule
  pub instances : List OwnedInstance

-- what the code has of it
abbrev pub ownership_of : Ownership → OwnershipState
ownership_of o = record { modules = o.modules.items; instances = o.instances.items }

-- nobody has anything
abbrev pub nothing_owned : OwnershipState
nothing_owned = record { modules = []; instances = [] }

-- it is of another module: no two have one number
abbrev pub is_other_module : ModuleId → OwnedModule → Bool
is_other_module of x = not (x.id.number == of.number)

-- it is of another instance: no two have one number
abbrev pub is_other : InstId → OwnedInstance → Bool
is_other id x = not (x.id.number == id.number)

-- whose the instance is; the operator's, where it is nobody's
abbrev pub owner_of : InstId → List OwnedInstance → Principal
owner_of id [] = Operator
owner_of id (x ∷ xs) = cond (x.id.number == id.number) x.owner (owner_of id xs)

-- A module is whoever's asked for it to be loaded, until it is let go. An instance is whoever's asked for it to be admitted, and a
-- copy is whose the instance is, whoever asked for it, until it is released.
abbrev pub owned_after : Principal → Question → DeskReply → OwnershipState → OwnershipState
owned_after who (Load bytes) (says.Loaded (Ok id)) owned =
    record owned { modules = owned.modules ++ record { id = id; owner = who } ∷ [] }
owned_after who (Unload of) (says.Unloaded (Ok done)) owned =
    record owned { modules = filter (is_other_module of) owned.modules }
owned_after who (Admit of params) (says.Admitted (Ok id)) owned =
    record owned { instances = owned.instances ++ record { id = id; owner = who } ∷ [] }
owned_after who (Fork id quota) (says.Forked (Ok copy)) owned =
    record owned { instances = owned.instances ++ record { id = copy; owner = owner_of id owned.instances } ∷ [] }
owned_after who (Release id) (says.Released (Ok output)) owned =
    record owned { instances = filter (is_other id) owned.instances }
owned_after who question reply owned = owned

-- the instance is this tenant's
abbrev pub IsTenants : OwnershipState → ℕ → InstId → Type 0
IsTenants owned t id = Contains owned.instances (record { id = id; owner = Tenant t })

-- the module is whoever's this is
abbrev pub IsModuleOf : OwnershipState → Principal → ModuleId → Type 0
IsModuleOf owned who of = Contains owned.modules (record { id = of; owner = who })

-- It may ask for instances of the module, which it has loaded, or the operator.
abbrev pub MayAdmit : OwnershipState → ℕ → ModuleId → Type 0
MayAdmit owned t of = IsModuleOf owned (Tenant t) of ⊎ IsModuleOf owned Operator of

-- What a tenant may ask: for a module; that one of its own goes; for an instance of its own modules and of the operator's, and what
-- these export; and whatever is asked of its own instances, a copy too. Epochs, and what is told of the whole, are the operator's.
abbrev pub MayAsk : OwnershipState → ℕ → Question → Type 0
MayAsk owned t (Load bytes) = ⊤
MayAsk owned t (Unload of) = IsModuleOf owned (Tenant t) of
MayAsk owned t (Admit of params) = MayAdmit owned t of
MayAsk owned t (Fork id quota) = IsTenants owned t id
MayAsk owned t (Invoke id name given fuel) = IsTenants owned t id
MayAsk owned t (InvokeAt id at given fuel) = IsTenants owned t id
MayAsk owned t (Refuel id fuel) = IsTenants owned t id
MayAsk owned t (Cancel id) = IsTenants owned t id
MayAsk owned t (Retry id) = IsTenants owned t id
MayAsk owned t (Release id) = IsTenants owned t id
MayAsk owned t BeginEpoch = ⊥
MayAsk owned t (Status id at) = IsTenants owned t id
MayAsk owned t Report = ⊥
MayAsk owned t Usage = ⊥
MayAsk owned t (UsageOf id) = IsTenants owned t id
MayAsk owned t (Transcript id) = IsTenants owned t id
MayAsk owned t (Output id from most) = IsTenants owned t id
MayAsk owned t (Ends id from most) = IsTenants owned t id
MayAsk owned t (Exports of) = MayAdmit owned t of
MayAsk owned t (Read id at length) = IsTenants owned t id

-- the operator may ask for everything
abbrev pub Permits : OwnershipState → Principal → Question → Type 0
Permits owned Operator question = ⊤
Permits owned (Tenant t) question = MayAsk owned t question

-- What is replied to who may not ask: what the host replies where there is no such module or instance. What is the operator's isn't
-- allowed.
abbrev pub refusal : Question → DeskReply
refusal (Load bytes) = says.NotAllowed
refusal (Unload of) = says.Unloaded (Err unloading.NoModule)
refusal (Admit of params) = says.Admitted (Err NoModule)
refusal (Fork id quota) = says.Forked (Err forking.NoInstance)
refusal (Invoke id name given fuel) = says.Invoked (Err NoInstance)
refusal (InvokeAt id at given fuel) = says.Invoked (Err NoInstance)
refusal (Refuel id fuel) = says.Done (Err NoInstance)
refusal (Cancel id) = says.Done (Err NoInstance)
refusal (Retry id) = says.Done (Err NoInstance)
refusal (Release id) = says.Released (Err NoInstance)
refusal BeginEpoch = says.NotAllowed
refusal (Status id at) = says.Status None
refusal Report = says.NotAllowed
refusal Usage = says.NotAllowed
refusal (UsageOf id) = says.UsageOf (Err NoInstance)
refusal (Transcript id) = says.Transcript (Err NoInstance)
refusal (Output id from most) = says.Output (Err NoInstance)
refusal (Ends id from most) = says.Ends (Err NoInstance)
refusal (Exports of) = says.Exports (Err exporting.NoModule)
refusal (Read id at length) = says.Read (Err (Host reading.NoInstance))
