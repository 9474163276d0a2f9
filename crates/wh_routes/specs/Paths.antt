-- Which resource a path names.
use Rattle.std.specs.Prelude.{◌≡◌, ℕ, ◌<◌, ◌^◌, List, [], ◌∷◌, ◌++◌, length, All, ⊤, codes}
use Rattle.std.specs.Fmt.{decimal}
use Rattle.hex.specs.Hex.{encode_lower}
use Rattle.wh_routes.specs.declared.route.InstancePart.{InstancePart}
use Rattle.wh_routes.specs.declared.route.InstancePart.TheVariants.{Itself, Calls, Call, Fuel, Cancel, Retry, Output, Memory, Transcript, Forgotten}
use Rattle.wh_routes.specs.declared.route.Route.{Route}
use Rattle.wh_routes.specs.declared.route.Route.TheVariants.{Page, Health, Ready, Metrics, Report, Epoch, Scan, Stop, Modules, Module, Exports, Instances, Instance}
use Rattle.wh_routes.specs.Readings.{IsInstanceName}

-- what stands behind an instance's name
abbrev pub part_pieces : InstancePart → List (List ℕ)
part_pieces Itself = []
part_pieces Calls = codes "calls" ∷ []
part_pieces (Call k) = codes "calls" ∷ decimal k ∷ []
part_pieces (Fuel k) = codes "calls" ∷ decimal k ∷ codes "fuel" ∷ []
part_pieces (Cancel k) = codes "calls" ∷ decimal k ∷ codes "cancel" ∷ []
part_pieces (Retry k) = codes "calls" ∷ decimal k ∷ codes "retry" ∷ []
part_pieces Output = codes "output" ∷ []
part_pieces Memory = codes "memory" ∷ []
part_pieces Transcript = codes "transcript" ∷ []
part_pieces Forgotten = codes "forgotten" ∷ []

-- the words of a resource's path
abbrev pub route_pieces : Route → List (List ℕ)
route_pieces Page = [] ∷ []
route_pieces Health = codes "healthz" ∷ []
route_pieces Ready = codes "readyz" ∷ []
route_pieces Metrics = codes "metrics" ∷ []
route_pieces Report = codes "v1" ∷ codes "report" ∷ []
route_pieces Epoch = codes "v1" ∷ codes "epoch" ∷ []
route_pieces Scan = codes "v1" ∷ codes "scan" ∷ []
route_pieces Stop = codes "v1" ∷ codes "stop" ∷ []
route_pieces Modules = codes "v1" ∷ codes "modules" ∷ []
route_pieces (Module digest) = codes "v1" ∷ codes "modules" ∷ encode_lower digest ∷ []
route_pieces (Exports digest) = codes "v1" ∷ codes "modules" ∷ encode_lower digest ∷ codes "exports" ∷ []
route_pieces Instances = codes "v1" ∷ codes "instances" ∷ []
route_pieces (Instance name part) = codes "v1" ∷ codes "instances" ∷ name.now ∷ part_pieces part

-- each word behind a `/`
abbrev pub slashed : List (List ℕ) → List ℕ
slashed [] = []
slashed (p ∷ ps) = 47 ∷ p ++ slashed ps

-- the one path of a resource
abbrev pub path_of : Route → List ℕ
path_of route = slashed (route_pieces route)

-- a call's place is below 2^64
abbrev pub IsPart : InstancePart → Type 0
IsPart (Call k) = k < 2 ^ 64
IsPart (Fuel k) = k < 2 ^ 64
IsPart (Cancel k) = k < 2 ^ 64
IsPart (Retry k) = k < 2 ^ 64
IsPart _ = ⊤

-- a digest has 32 bytes, and an instance a name
abbrev pub IsRoute : Route → Type 0
IsRoute (Module digest) = (length digest ≡ 32) × All (λ b. b < 256) digest
IsRoute (Exports digest) = (length digest ≡ 32) × All (λ b. b < 256) digest
IsRoute (Instance name part) = IsInstanceName name.now × IsPart part
IsRoute _ = ⊤

-- the path names the resource
abbrev pub NamesRoute : List ℕ → Route → Type 0
NamesRoute path route = IsRoute route × (path ≡ path_of route)

-- a part of an instance, by the words behind its name
pub record HasPartPieces (part : InstancePart) (ps : List (List ℕ)) : Type 0 where
  pub is : IsPart part
  pub pieces : ps ≡ part_pieces part

-- a resource, by the words of its path
pub record HasPieces (route : Route) (ps : List (List ℕ)) : Type 0 where
  pub is : IsRoute route
  pub pieces : ps ≡ route_pieces route
