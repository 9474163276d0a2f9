-- Paths that name nothing.
use Rattle.std.proofs.Common.{rules, ◌≡◌, ◌≢◌, ℕ, ◌==◌, Bool, true, false, if◌then◌else◌, List, [], ◌∷◌, Option, Some, refl, ap, subst, ◌∙◌}
use Rattle.std.specs.Prelude.{codes}
use denote.Ref.{Bor}
use Rattle.wh_routes.specs.declared.route.Route.{Route}
use Rattle.wh_routes.specs.declared.route.InstancePart.{InstancePart}
use Rattle.wh_routes.specs.Separators.{onto_first_piece, pieces_at, pieces_behind}
use Rattle.wh_routes.specs.Paths.{HasPartPieces, HasPieces}

-- there is a first piece
onto_some : (b : ℕ) (ps : List (List ℕ)) → (q : List ℕ) × (qs : List (List ℕ)) × (onto_first_piece b ps ≡ q ∷ qs)
onto_some b [] = (b ∷ [], [], refl)
onto_some b (p ∷ ps) = (b ∷ p, ps, refl)

some_pieces_by : (t : Bool) (s b : ℕ) (bs : List ℕ)
    → (q : List ℕ) × (qs : List (List ℕ)) × ((if t then [] ∷ pieces_at s bs else onto_first_piece b (pieces_at s bs)) ≡ q ∷ qs)
some_pieces_by true s b bs = ([], pieces_at s bs, refl)
some_pieces_by false s b bs = onto_some b (pieces_at s bs)

pub some_pieces : (s : ℕ) (text : List ℕ) → (q : List ℕ) × (qs : List (List ℕ)) × (pieces_at s text ≡ q ∷ qs)
some_pieces s [] = ([], [], refl)
some_pieces s (b ∷ bs) = some_pieces_by (b == s) s b bs

-- two pieces at least
two_pieces : (s : ℕ) (text piece : List ℕ) (behind : Option (Bor (List ℕ))) (rest : Bor (List ℕ))
    → pieces_at s text ≡ piece ∷ pieces_behind s behind → behind ≡ Some rest
    → (q : List ℕ) × (qs : List (List ℕ)) × (pieces_at s text ≡ piece ∷ q ∷ qs)
two_pieces s text piece behind rest e f =
    let g = some_pieces s rest.now in
    (g.0, g.1, e ∙ (ap (λ o. piece ∷ pieces_behind s o) f ∙ ap (λ ps. piece ∷ ps) g.2))

-- what is cut off lies in front of the other pieces
pub after_cut : (all w : List ℕ) (behind : Option (Bor (List ℕ))) (rest : Bor (List ℕ))
    → pieces_at 47 all ≡ w ∷ pieces_behind 47 behind → behind ≡ Some rest → pieces_at 47 all ≡ w ∷ pieces_at 47 rest.now
after_cut all w behind rest e f = e ∙ ap (λ o. w ∷ pieces_behind 47 o) f

exports_end : (w v p : List ℕ) (ps : List (List ℕ)) (r : Route) → ¬ (HasPieces r (codes "v1" ∷ codes "modules" ∷ w ∷ v ∷ p ∷ ps))
exports_end w v p ps r = search rules

calls_end : (v w p : List ℕ) (ps : List (List ℕ)) (part : InstancePart) → ¬ (HasPartPieces part (codes "calls" ∷ v ∷ w ∷ p ∷ ps))
calls_end v w p ps part = search rules

not_calls : (v p : List ℕ) (ps : List (List ℕ)) → v ≢ codes "calls" → (part : InstancePart) → ¬ (HasPartPieces part (v ∷ p ∷ ps))
not_calls v p ps other part = search rules

not_versioned : (v p : List ℕ) (ps : List (List ℕ)) → v ≢ codes "modules" → v ≢ codes "instances" → (r : Route)
    → ¬ (HasPieces r (codes "v1" ∷ v ∷ p ∷ ps))
not_versioned v p ps other another r = search rules

not_rooted : (v p : List ℕ) (ps : List (List ℕ)) → v ≢ codes "v1" → (r : Route) → ¬ (HasPieces r (v ∷ p ∷ ps))
not_rooted v p ps other r = search rules

pub module_none : (w text piece : List ℕ) (behind : Option (Bor (List ℕ))) (rest : Bor (List ℕ)) (all : List ℕ)
    → pieces_at 47 all ≡ w ∷ pieces_at 47 text → pieces_at 47 text ≡ piece ∷ pieces_behind 47 behind → behind ≡ Some rest
    → (r : Route) → ¬ (HasPieces r (codes "v1" ∷ codes "modules" ∷ pieces_at 47 all))
module_none w text piece behind rest all d e f r h =
    let g = two_pieces 47 text piece behind rest e f in
    exports_end w piece g.0 g.1 r
    (subst (λ ps. HasPieces r (codes "v1" ∷ codes "modules" ∷ ps)) (d ∙ ap (λ ps. w ∷ ps) g.2) h)

pub call_none : (w text piece : List ℕ) (behind : Option (Bor (List ℕ))) (rest : Bor (List ℕ)) (all : List ℕ)
    → pieces_at 47 all ≡ w ∷ pieces_at 47 text → pieces_at 47 text ≡ piece ∷ pieces_behind 47 behind → behind ≡ Some rest
    → (part : InstancePart) → ¬ (HasPartPieces part (codes "calls" ∷ pieces_at 47 all))
call_none w text piece behind rest all d e f part h =
    let g = two_pieces 47 text piece behind rest e f in
    calls_end w piece g.0 g.1 part
    (subst (λ ps. HasPartPieces part (codes "calls" ∷ ps)) (d ∙ ap (λ ps. w ∷ ps) g.2) h)

pub part_none : (text piece : List ℕ) (behind : Option (Bor (List ℕ))) (rest : Bor (List ℕ))
    → pieces_at 47 text ≡ piece ∷ pieces_behind 47 behind → behind ≡ Some rest → piece ≢ codes "calls"
    → (part : InstancePart) → ¬ (HasPartPieces part (pieces_at 47 text))
part_none text piece behind rest e f other part h =
    let g = two_pieces 47 text piece behind rest e f in
    not_calls piece g.0 g.1 other part (subst (HasPartPieces part) g.2 h)

pub versioned_none : (text piece : List ℕ) (behind : Option (Bor (List ℕ))) (rest : Bor (List ℕ))
    → pieces_at 47 text ≡ piece ∷ pieces_behind 47 behind → behind ≡ Some rest
    → piece ≢ codes "modules" → piece ≢ codes "instances" → (r : Route) → ¬ (HasPieces r (codes "v1" ∷ pieces_at 47 text))
versioned_none text piece behind rest e f other another r h =
    let g = two_pieces 47 text piece behind rest e f in
    not_versioned piece g.0 g.1 other another r (subst (λ ps. HasPieces r (codes "v1" ∷ ps)) g.2 h)

pub rooted_none : (text piece : List ℕ) (behind : Option (Bor (List ℕ))) (rest : Bor (List ℕ))
    → pieces_at 47 text ≡ piece ∷ pieces_behind 47 behind → behind ≡ Some rest → piece ≢ codes "v1"
    → (r : Route) → ¬ (HasPieces r (pieces_at 47 text))
rooted_none text piece behind rest e f other r h =
    let g = two_pieces 47 text piece behind rest e f in
    not_rooted piece g.0 g.1 other r (subst (HasPieces r) g.2 h)
