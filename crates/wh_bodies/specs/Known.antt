-- What a forward check knows of the operands, as in the algorithm of the standard's appendix 7.3, and what instructions
-- make of it. Lists of types have the topmost operand first.
use Rattle.std.specs.Prelude.{◌≡◌, ℕ, ◌-◌, List, [], ◌∷◌, Option, Some, None, Result, Ok, Err, length, take, drop, reverse, Bool, true, false, cond, nat_lt}
use Rattle.wh_model.specs.declared.ValType.{ValType}
use Rattle.wh_model.specs.declared.ValType.TheVariants.{I32, I64}
use Rattle.wh_model.specs.declared.faults.ValidKind.{ValidKind}
use Rattle.wh_model.specs.declared.faults.ValidKind.TheVariants.{BadType, Arity, Height}
use Rattle.wh_bodies.specs.declared.operands.Operands.{Operands}
use Rattle.wh_bodies.specs.BodyFaults.{follow}

-- The types of all operands of the function, the topmost first, where None is any type. Those above the floor belong to
-- the innermost sequence; where it is dead, any operands may lie between them and the floor.
pub record Known : Type 0 where
  pub types : List (Option ValType)
  pub floor : ℕ
  pub dead : Bool

abbrev pub known : Operands → Known
known o = record { types = reverse o.types.items; floor = o.floor; dead = o.dead }

-- ---- which operands these may be

-- those above the floor
abbrev pub above : ℕ → List (Option ValType) → List (Option ValType)
above floor types = take (length types - floor) types

-- and those beneath it
abbrev pub known_beneath : ℕ → List (Option ValType) → List (Option ValType)
known_beneath floor types = drop (length types - floor) types

-- a type that is known is that type, and another one any
abbrev pub Admits : Option ValType → ValType → Type 0
Admits None t = Unit {0}
Admits (Some u) t = u ≡ t

-- the operand types agree with what is known of them
abbrev pub AgreeWithKnown : List (Option ValType) → Bool → List ValType → Type 0
AgreeWithKnown [] true ts = Unit {0}
AgreeWithKnown [] false ts = ts ≡ []
AgreeWithKnown (o ∷ os) dead [] = ⊥
AgreeWithKnown (o ∷ os) dead (t ∷ ts) = Admits o t × AgreeWithKnown os dead ts

abbrev pub Fit : Known → List ValType → Type 0
Fit k ts = AgreeWithKnown (above k.floor k.types) k.dead ts

-- ---- what is taken and given

abbrev pub same_type : ValType → ValType → Bool
same_type I32 I32 = true
same_type I32 I64 = false
same_type I64 I32 = false
same_type I64 I64 = true

-- the topmost operand, and what is left
abbrev pub topmost : Known → List (Option ValType) → Result (Option ValType × Known) ValidKind
topmost k [] = Err Arity
topmost k (o ∷ os) = Ok (o, record k { types = os })

abbrev pub take_any : Known → Result (Option ValType × Known) ValidKind
take_any k = cond (nat_lt k.floor (length k.types)) (topmost k k.types) (cond k.dead (Ok (None, k)) (Err Arity))

abbrev pub is_wanted : ValType → Option ValType → Known → Result Known ValidKind
is_wanted wanted None k = Ok k
is_wanted wanted (Some found) k = cond (same_type found wanted) (Ok k) (Err BadType)

abbrev pub take_one : Known → ValType → Result Known ValidKind
take_one k wanted = follow (take_any k) (λ r. is_wanted wanted r.0 r.1)

abbrev pub give_one : Known → Option ValType → Result Known ValidKind
give_one k of = cond (nat_lt (length k.types) 256) (Ok (record k { types = of ∷ k.types })) (Err Height)

-- what follows isn't reached
abbrev pub fall : Known → Known
fall k = record k { types = known_beneath k.floor k.types; dead = true }

-- operands of these types, the first one topmost
abbrev pub take_all : Known → List ValType → Result Known ValidKind
take_all k [] = Ok k
take_all k (t ∷ ts) = follow (take_one k t) (λ left. take_all left ts)

-- operands of these types, the last one topmost
abbrev pub give_all : Known → List ValType → Result Known ValidKind
give_all k [] = Ok k
give_all k (t ∷ ts) = follow (give_one k (Some t)) (λ more. give_all more ts)

-- of an instruction of type params -> results, the last ones topmost
abbrev pub pass : Known → List ValType → List ValType → Result Known ValidKind
pass k params results = follow (take_all k (reverse params)) (λ left. give_all left results)

-- the type that both are, as far as they are known
abbrev pub agreed : Option ValType → Option ValType → Result (Option ValType) ValidKind
agreed None other = Ok other
agreed (Some found) None = Ok (Some found)
agreed (Some found) (Some wanted) = cond (same_type found wanted) (Ok (Some found)) (Err BadType)

-- select
abbrev pub selected : Known → Result Known ValidKind
selected k =
    follow (take_one k I32)
    (λ a. follow (take_any a) (λ b. follow (take_any b.1) (λ d. follow (agreed b.0 d.0) (λ of. give_one d.1 of))))
