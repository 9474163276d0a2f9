-- An instance that is gone.
use Rattle.std.proofs.Common.{◌≡◌, ℕ, None, Some, false, get_or, length, refl, arith}
use Rattle.wh_space_model.specs.declared.states.Page.{Page}
use Rattle.wh_space_model.specs.declared.states.Page.TheVariants.{Private, Shared}
use Rattle.wh_space_model.specs.{MayNotMerge, Space, found_at, has_number, IsSound, page_at}
use Rattle.wh_space_model.proofs.Putting.{is_page}

-- it has no page
pub gone : (s : Space) (place number p : ℕ) → IsSound s → has_number (get_or s.occupants place None) number ≡ false → MayNotMerge s (found_at s place number) p
gone s place number p sound away = (λ g offered. nowhere (Private g) offered.0, λ f n may. nowhere (Shared f) may.0) where
  nowhere : (page : Page) → page_at s.tables (found_at s place number) p ≡ Some page → ⊥
  nowhere page there =
      let past : found_at s place number ≡ length s.occupants = rw away refl in
      let within = (is_page s.tables (found_at s place number) p page there).0 in
      let long = sound.occupants.tables in
      omega arith
