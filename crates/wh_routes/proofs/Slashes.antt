-- Words behind slashes, and the pieces of a path.
use Rattle.std.proofs.Common.{◌≡◌, ◌≢◌, ℕ, zero, suc, ◌<◌, ◌^◌, ◌==◌, ◌&&◌, not, Bool, true, false, if◌then◌else◌, IsTrue, Option, Some, None, IfSome, IfNone, List, [], ◌∷◌, ◌++◌, slice_index, refl, sym, ap, subst, ◌∙◌, arith}
use Rattle.std.specs.Prelude.{codes}
use Rattle.std.specs.List.{AllByRecursion}
use Rattle.std.specs.Fmt.{decimal}
use Rattle.std.specs.Str.Parse.{AllDigits}
use Rattle.std.proofs.lemmas.Bool.Decides.{nat_tests}
use Rattle.std.proofs.lemmas.Fmt.{decimal_is_IsNumeral}
use Rattle.std.proofs.lemmas.List.Elements.{recursion_from_All}
use Rattle.std.proofs.lemmas.Str.Parse.{digit_from_value}
use Rattle.hex.specs.Hex.{lower_digits, encode_with, encode_lower}
use Rattle.wh_routes.specs.declared.route.InstancePart.{InstancePart}
use Rattle.wh_routes.specs.declared.route.InstancePart.TheVariants.{Itself, Calls, Call, Fuel, Cancel, Retry, Output, Memory, Transcript, Forgotten}
use Rattle.wh_routes.specs.declared.route.Route.{Route}
use Rattle.wh_routes.specs.declared.route.Route.TheVariants.{Page, Health, Ready, Metrics, Report, Epoch, Scan, Stop, Modules, Module, Exports, Instances, Instance}
use Rattle.wh_routes.specs.Separators.{onto_first_piece, pieces_at}
use Rattle.wh_routes.specs.Readings.{IsInstanceName, is_instance_name_byte}
use Rattle.wh_routes.specs.Paths.{slashed, part_pieces, route_pieces, IsPart, IsRoute, NamesRoute, HasPieces}
use Rattle.wh_routes.proofs.Apart.{some_pieces}

-- it has no slash
abbrev pub IsFree : List ℕ → Type 0
IsFree p = AllByRecursion (λ b. b ≢ 47) p

-- ---- pieces of words

pieces_joined : (p : List ℕ) (ps : List (List ℕ)) → IsFree p → pieces_at 47 (slashed ps) ≡ [] ∷ ps → pieces_at 47 (p ++ slashed ps) ≡ p ∷ ps
pieces_joined [] ps h e = e
pieces_joined (b ∷ p) ps h e = let ne = h.0 in rw (pieces_joined p ps h.1 e) (grind (arith, nat_tests))

pieces_slashed : (ps : List (List ℕ)) → AllByRecursion IsFree ps → pieces_at 47 (slashed ps) ≡ [] ∷ ps
pieces_slashed [] h = refl
pieces_slashed (p ∷ ps) h = ap (λ qs. [] ∷ qs) (pieces_joined p ps h.0 (pieces_slashed ps h.1))

-- ---- words of pieces

abbrev rejoin : List (List ℕ) → List ℕ
rejoin [] = []
rejoin (q ∷ qs) = q ++ slashed qs

rejoin_onto : (b : ℕ) (ps : List (List ℕ)) → rejoin (onto_first_piece b ps) ≡ b ∷ rejoin ps
rejoin_onto b [] = refl
rejoin_onto b (p ∷ ps) = refl

slashed_some : (ps : List (List ℕ)) (q : List ℕ) (qs : List (List ℕ)) → ps ≡ q ∷ qs → slashed ps ≡ 47 ∷ rejoin ps
slashed_some ps q qs e = rw e refl

slashed_behind : (text : List ℕ) → slashed (pieces_at 47 text) ≡ 47 ∷ rejoin (pieces_at 47 text)
slashed_behind text = let g = some_pieces 47 text in slashed_some (pieces_at 47 text) g.0 g.1 g.2

rejoined_by : (t : Bool) (b : ℕ) (bs : List ℕ) → (b == 47) ≡ t → bs ≡ rejoin (pieces_at 47 bs)
    → b ∷ bs ≡ rejoin (if t then [] ∷ pieces_at 47 bs else onto_first_piece b (pieces_at 47 bs))
rejoined_by true b bs e ih =
    let at : b ≡ 47 = grind (arith, nat_tests) in
    rw (slashed_behind bs) (rw (← ih) (rw at refl))
rejoined_by false b bs e ih = rw (rejoin_onto b (pieces_at 47 bs)) (ap (λ r. b ∷ r) ih)

rejoined : (text : List ℕ) → text ≡ rejoin (pieces_at 47 text)
rejoined [] = refl
rejoined (b ∷ bs) = rejoined_by (b == 47) b bs refl (rejoined bs)

slashed_pieces : (text : List ℕ) → slashed (pieces_at 47 text) ≡ 47 ∷ text
slashed_pieces text = slashed_behind text ∙ ap (λ r. 47 ∷ r) (sym (rejoined text))

-- ---- words of a resource

-- whether it has no slash
abbrev has_none : List ℕ → Bool
has_none [] = true
has_none (b ∷ bs) = not (b == 47) && has_none bs

free_by_test : (p : List ℕ) → has_none p ≡ true → IsFree p
free_by_test [] h = tt
free_by_test (b ∷ bs) h = (grind (arith, nat_tests), free_by_test bs (grind (arith, nat_tests)))

free_digits : (text : List ℕ) → AllDigits 10 text → IsFree text
free_digits [] h = tt
free_digits (c ∷ cs) h = ((let r = digit_from_value c h.0 in omega arith), free_digits cs h.1)

free_decimal : (n : ℕ) → n < 2 ^ 64 → IsFree (decimal n)
free_decimal n small = free_digits (decimal n) (decimal_is_IsNumeral n small).0.1

at_free : (t : List ℕ) → IsFree t → (i : ℕ) → slice_index t i ≢ 47
at_free [] h i = λ e. absurd (omega arith)
at_free (c ∷ cs) h zero = h.0
at_free (c ∷ cs) h (suc i) = at_free cs h.1 i

free_hex_by : (xs : List ℕ) → IsFree (encode_with lower_digits xs)
unfolding encode_with
free_hex_by [] = tt
free_hex_by (b ∷ bs) = let f = at_free lower_digits (free_by_test lower_digits refl) in (f _, (f _, free_hex_by bs))

free_hex : (d : List ℕ) → IsFree (encode_lower d)
free_hex d = free_hex_by d

name_byte_free : (b : ℕ) → IsTrue (is_instance_name_byte b) → b ≢ 47
name_byte_free b h e = let x : false ≡ true = subst (λ x. IsTrue (is_instance_name_byte x)) e h in cc

free_name_by : (text : List ℕ) → AllByRecursion (λ b. IsTrue (is_instance_name_byte b)) text → IsFree text
free_name_by [] h = tt
free_name_by (b ∷ bs) h = (name_byte_free b h.0, free_name_by bs h.1)

free_name : (text : List ℕ) → IsInstanceName text → IsFree text
free_name text h = free_name_by text (recursion_from_All (λ b. IsTrue (is_instance_name_byte b)) text h.all)

free_part : (part : InstancePart) → IsPart part → AllByRecursion IsFree (part_pieces part)
free_part Itself h = tt
free_part Calls h = (free_by_test (codes "calls") refl, tt)
free_part (Call k) h = (free_by_test (codes "calls") refl, (free_decimal k h, tt))
free_part (Fuel k) h = (free_by_test (codes "calls") refl, (free_decimal k h, (free_by_test (codes "fuel") refl, tt)))
free_part (Cancel k) h = (free_by_test (codes "calls") refl, (free_decimal k h, (free_by_test (codes "cancel") refl, tt)))
free_part (Retry k) h = (free_by_test (codes "calls") refl, (free_decimal k h, (free_by_test (codes "retry") refl, tt)))
free_part Output h = (free_by_test (codes "output") refl, tt)
free_part Memory h = (free_by_test (codes "memory") refl, tt)
free_part Transcript h = (free_by_test (codes "transcript") refl, tt)
free_part Forgotten h = (free_by_test (codes "forgotten") refl, tt)

free_route : (route : Route) → IsRoute route → AllByRecursion IsFree (route_pieces route)
free_route Page h = (tt, tt)
free_route Health h = (free_by_test (codes "healthz") refl, tt)
free_route Ready h = (free_by_test (codes "readyz") refl, tt)
free_route Metrics h = (free_by_test (codes "metrics") refl, tt)
free_route Report h = (free_by_test (codes "v1") refl, (free_by_test (codes "report") refl, tt))
free_route Epoch h = (free_by_test (codes "v1") refl, (free_by_test (codes "epoch") refl, tt))
free_route Scan h = (free_by_test (codes "v1") refl, (free_by_test (codes "scan") refl, tt))
free_route Stop h = (free_by_test (codes "v1") refl, (free_by_test (codes "stop") refl, tt))
free_route Modules h = (free_by_test (codes "v1") refl, (free_by_test (codes "modules") refl, tt))
free_route (Module digest) h = (free_by_test (codes "v1") refl, (free_by_test (codes "modules") refl, (free_hex digest, tt)))
free_route (Exports digest) h = (free_by_test (codes "v1") refl, (free_by_test (codes "modules") refl, (free_hex digest, (free_by_test (codes "exports") refl, tt))))
free_route Instances h = (free_by_test (codes "v1") refl, (free_by_test (codes "instances") refl, tt))
free_route (Instance name part) h = (free_by_test (codes "v1") refl, (free_by_test (codes "instances") refl, (free_name name.now h.0, free_part part h.1)))

-- ---- names

-- the pieces of a path are its resource's words
pub pieces_named : (path : List ℕ) (route : Route) → NamesRoute path route → pieces_at 47 path ≡ [] ∷ route_pieces route
pieces_named path route h = ap (pieces_at 47) h.1 ∙ pieces_slashed (route_pieces route) (free_route route h.0)

pub named_by_pieces : (path rest : List ℕ) → path ≡ 47 ∷ rest → (route : Route) → HasPieces route (pieces_at 47 rest) → NamesRoute path route
named_by_pieces path rest e route h = (h.is, e ∙ (sym (slashed_pieces rest) ∙ ap slashed h.pieces))

pieces_behind_root : (path rest : List ℕ) → path ≡ 47 ∷ rest → pieces_at 47 path ≡ [] ∷ pieces_at 47 rest
pieces_behind_root path rest e = rw e refl

pub none_by_pieces : (path rest : List ℕ) → path ≡ 47 ∷ rest → ((route : Route) → ¬ (HasPieces route (pieces_at 47 rest)))
    → (route : Route) → ¬ (NamesRoute path route)
none_by_pieces path rest e none route h =
    let x = pieces_named path route h in
    let y = pieces_behind_root path rest e in
    none route (record { is = h.0; pieces = cc })

pub found_by : (path rest : List ℕ) → path ≡ 47 ∷ rest → (found : Option Route)
    → IfSome found (λ route. HasPieces route (pieces_at 47 rest)) → IfSome found (λ route. NamesRoute path route)
found_by path rest e (Some route) h = named_by_pieces path rest e route h
found_by path rest e None h = tt

pub none_by : (path rest : List ℕ) → path ≡ 47 ∷ rest → (found : Option Route)
    → IfNone found ((route : Route) → ¬ (HasPieces route (pieces_at 47 rest))) → IfNone found ((route : Route) → ¬ (NamesRoute path route))
none_by path rest e (Some route) h = tt
none_by path rest e None h = none_by_pieces path rest e h
