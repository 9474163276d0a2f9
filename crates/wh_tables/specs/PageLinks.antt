-- Links from each member to the next in order. With the order turned they are those to the one before.
use Rattle.std.specs.Prelude.{◌≡◌, Option, Some, None}

-- the link from x leads to the first member after it, or there is none
pub record LeadsToNearest {X : Type 0} (On : X → Type 0) (Before : X → X → Type 0) (x : X) (link : Option X) : Type 0 where
  pub there : (y : X) → link ≡ Some y → On y × Before x y
  pub nearest : (z : X) → On z → Before x z → (y : X) × (link ≡ Some y) × ¬ Before z y

-- where a walk stands: at its start, before all members, or at one of them
abbrev pub IsStop : {A : Type 0} → (A → Type 0) → Option A → Type 0
IsStop On None = Unit
IsStop On (Some x) = On x

abbrev pub IsEarlierStop : {A : Type 0} → (A → A → Type 0) → Option A → Option A → Type 0
IsEarlierStop Before at None = ⊥
IsEarlierStop Before None (Some y) = Unit
IsEarlierStop Before (Some x) (Some y) = Before x y

-- a link from a stop leads to a member, and so to a stop
abbrev pub stop_of : {A : Type 0} → Option A → Option (Option A)
stop_of None = None
stop_of (Some x) = Some (Some x)

abbrev pub Turned : {A : Type 0} → (A → A → Type 0) → A → A → Type 0
Turned Before x y = Before y x
