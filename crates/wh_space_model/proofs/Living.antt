-- Who has a page lives.
use Rattle.std.proofs.Common.{◌≡◌, ℕ, true, false, Bool, List, [], ◌∷◌, Option, Some, None, slice_get, get_or, refl, ap, ◌∙◌, arith}
use Rattle.wh_space_model.specs.declared.states.Page.{Page}
use Rattle.wh_space_model.specs.{Occupant, Space, occupant_at, OccupantsAreSound, page_at}
use Rattle.wh_space_model.proofs.Rooms.{get_there}
use Rattle.wh_space_model.proofs.Putting.{is_page}

no_page : {X : Type 0} (xs : List X) (p : ℕ) (x : X) → slice_get xs p ≡ Some x → xs ≡ [] → ⊥
no_page [] p x h e = cc
no_page (y ∷ xs) p x h e = cc

lives : (s : Space) (i p : ℕ) (x : Page) (o : Option Occupant) → OccupantsAreSound s → page_at s.tables i p ≡ Some x → slice_get s.occupants i ≡ Some o → (t : Occupant) × (o ≡ Some t) × (t.live ≡ true)
lives s i p x None sound there is = absurd (no_page (get_or s.tables i []) p x there (sound.have i None is))
lives s i p x (Some t) sound there is = go t.live refl where
  go : (b : Bool) → t.live ≡ b → (u : Occupant) × (Some t ≡ Some u) × (u.live ≡ true)
  go true e = (t, refl, e)
  go false e = absurd (no_page (get_or s.tables i []) p x there ((sound.have i (Some t) is).3 e))

-- an instance that has a page is live
pub page_is_live : (s : Space) (i p : ℕ) (x : Page) → OccupantsAreSound s → page_at s.tables i p ≡ Some x → (t : Occupant) × occupant_at s i t × (t.live ≡ true)
page_is_live s i p x sound there =
    let within = (is_page s.tables i p x there).0 in
    let o = get_there s.occupants i (let l = sound.tables in omega arith) in
    let found = lives s i p x o.0 sound there o.1 in
    (found.0, o.1 ∙ ap Some found.1, found.2)
