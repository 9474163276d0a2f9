-- A copy of an instance arrives, and sees what the instance sees.
use Rattle.std.proofs.Common.{◌*◌, List, Option, get_or, None, ap, ◌≡◌, ◌∙◌, rules}
use Rattle.wh_space_model.specs.{Occupant, Pins, Space, claim_of, kept_by, need_of, pinned_by, promised_to}
use Rattle.wh_host_model.specs.Host.{CopiesArrive}
use Rattle.wh_host_model.proofs.Host.Leaving.{enters_alone}
use Rattle.wh_space_model.proofs.Entered.{enters_soundly}
use Rattle.wh_space_model.proofs.Forked.{IsKept, copies_are_right, lent_first}

pub copies_arrive : CopiesArrive
copies_arrive s i j c s2 sound copies =
    let mid : Space = copies.mid in
    let right = copies_are_right s i j c s2 sound copies in
    let enters = copies.enters in
    let arrives = enters_alone s j c copies.size mid sound enters in
    let lent = lent_first mid i j (16 * copies.size) s2 (enters_soundly s j c copies.size mid sound enters) copies.apart copies.lends in
    let keeps : IsKept mid s2 = lent.keeps in
    let same : s2.occupants ≡ mid.occupants = keeps.occupants in
    let none = arrives.unpinned in
    record {
      free = arrives.free;
      others = search rules;
      places = λ k other. ap (λ (xs : List (Option Occupant)). promised_to (get_or xs k None)) same ∙ arrives.places k other;
      view = right.sees;
      wants = ap (λ (xs : List (Option Occupant)). need_of (get_or xs j None)) same ∙ arrives.wants;
      claim = ap (λ (xs : List (Option Occupant)). claim_of (get_or xs j None)) same ∙ arrives.claim;
      unpinned = (ap (λ (o : Option Pins). kept_by o j) keeps.pins ∙ none.0, ap (λ (o : Option Pins). pinned_by o j) keeps.pins ∙ none.1);
      sound = right.sound;
    }
