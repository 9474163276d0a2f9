-- One link of many is another now.
use Rattle.std.proofs.Common.{◌≡◌, ◌≢◌, ℕ, inl, inr, List, [], ◌∷◌, Option, Some, None, length, slice_get, get_or, zero, suc, refl, sym, ap, ◌∙◌, length-set, rules}
use Rattle.wh_space_model.specs.{page_at, put}
use Rattle.wh_space_model.proofs.Putting.{here_or, put_other, put_other_row, put_this}
use Rattle.wh_tables.specs.declared.page_id.PageId.{PageId}
use Rattle.wh_tables.specs.declared.order.Link.{Link}
use Rattle.wh_tables.proofs.InOrder.{same_id}
use Rattle.wh_tables.specs.Order.{Chains, HasNext, HasPrior, IsAsLarge, IsElsewhere, next_in, next_of_link, prior_in, prior_of_link}

-- the lengths of rows stay
pub put_lengths : {X : Type 0} (xss : List (List X)) (j p : ℕ) (x : X) (i : ℕ) → length (get_or (put xss j p x) i []) ≡ length (get_or xss i [])
put_lengths [] j p x i = refl
put_lengths (xs ∷ xss) zero p x zero = length-set xs p x
put_lengths (xs ∷ xss) zero p x (suc i) = refl
put_lengths (xs ∷ xss) (suc j) p x zero = refl
put_lengths (xs ∷ xss) (suc j) p x (suc i) = put_lengths xss j p x i

-- another element than the one that was put, of whichever row
pub put_elsewhere : {X : Type 0} (xss : List (List X)) (a b : PageId) (x : X) → b ≢ a → page_at (put xss a.place a.page x) b.place b.page ≡ page_at xss b.place b.page
put_elsewhere xss a b x other =
    elim (here_or a.place b.place) [
      | inr away ↦ ap (λ row. slice_get row b.page) (put_other_row xss a.place a.page b.place x away)
      | inl same ↦ search (rules, here_or, put_other)
    ]

large_links : (c : Chains) (id : PageId) (link : Link) → IsAsLarge c (record c { links = put c.links id.place id.page link })
large_links c id link = record { numbers = refl; ends = refl; places = length-set c.links id.place _; pages = λ i. put_lengths c.links id.place id.page link i }

pub next_from_page : (c : Chains) (f : ℕ) (id : PageId) (link : Link) (to : Option PageId) → page_at c.links id.place id.page ≡ Some link
    → HasNext c f (Some id) to (record c { links = put c.links id.place id.page (record link { next = to }) })
next_from_page c f id link to there =
    record {
      large = large_links c id (record link { next = to });
      next = record {
        here = ap next_of_link (put_this c.links id.place id.page link (record link { next = to }) there);
        others = others;
      };
      prior = prior;
    } where
      others : (g : ℕ) (other : Option PageId) → IsElsewhere f (Some id) g other → next_in (record c { links = put c.links id.place id.page (record link { next = to }) }) g other ≡ next_in c g other
      others g None away = refl
      others g (Some x) (inl away) = ap next_of_link (put_elsewhere c.links id x (record link { next = to }) (λ e. away (ap Some e)))
      others g (Some x) (inr (none, other)) = cc

      prior : (g : ℕ) (other : Option PageId) → prior_in (record c { links = put c.links id.place id.page (record link { next = to }) }) g other ≡ prior_in c g other
      prior g None = refl
      prior g (Some x) =
          elim (same_id x id) [
            | inl same ↦ rw same (ap prior_of_link (put_this c.links id.place id.page link (record link { next = to }) there) ∙ sym (ap prior_of_link there))
            | inr away ↦ ap prior_of_link (put_elsewhere c.links id x (record link { next = to }) away)
          ]

pub prior_from_page : (c : Chains) (f : ℕ) (id : PageId) (link : Link) (to : Option PageId) → page_at c.links id.place id.page ≡ Some link
    → HasPrior c f (Some id) to (record c { links = put c.links id.place id.page (record link { prior = to }) })
prior_from_page c f id link to there =
    record {
      large = large_links c id (record link { prior = to });
      prior = record {
        here = ap prior_of_link (put_this c.links id.place id.page link (record link { prior = to }) there);
        others = others;
      };
      next = next;
    } where
      others : (g : ℕ) (other : Option PageId) → IsElsewhere f (Some id) g other → prior_in (record c { links = put c.links id.place id.page (record link { prior = to }) }) g other ≡ prior_in c g other
      others g None away = refl
      others g (Some x) (inl away) = ap prior_of_link (put_elsewhere c.links id x (record link { prior = to }) (λ e. away (ap Some e)))
      others g (Some x) (inr (none, other)) = cc

      next : (g : ℕ) (other : Option PageId) → next_in (record c { links = put c.links id.place id.page (record link { prior = to }) }) g other ≡ next_in c g other
      next g None = refl
      next g (Some x) =
          elim (same_id x id) [
            | inl same ↦ rw same (ap next_of_link (put_this c.links id.place id.page link (record link { prior = to }) there) ∙ sym (ap next_of_link there))
            | inr away ↦ ap next_of_link (put_elsewhere c.links id x (record link { prior = to }) away)
          ]
