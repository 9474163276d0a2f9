-- Faults stop few, and bring no call back; and who represents one goes on only where it is tried again.
use Rattle.std.proofs.Common.{◌≡◌, ◌≤◌, ◌∙◌, ℕ, ◌+◌, List, [], ◌∷◌, length, Option, Some, None, refl, sym, arith, rules}
use Rattle.std.proofs.lemmas.Option.{none-some}
use Rattle.std.specs.List.{AllZip}
use Rattle.wh_model.specs.Execution.{Call, Standing}
use Rattle.wh_model.specs.Execution.Store.{Instance}
use Rattle.wh_script_model.specs.{NamedInstance, LosesNothing, RestsAmid, rests_alone, meets_fault, RunsAmid, gone_still, stands_still, runs_on, AreMixed, none_left, one_own, one_other}
use Rattle.wh_script_laws.specs.Failures.{newly_stopped, NoCallGoesBack, NoneGoesOnUnasked, FaultsStopFew}

loses_none : (calls : List Call) → AllZip LosesNothing calls calls
loses_none [] = tt
loses_none (c ∷ calls) = (record { fragments = omega arith; charges = omega arith }, loses_none calls)

rest_loses_none : (faults : List ℕ) (inst : Instance) (before calls : List Call) (z : Standing) (o : Option ℕ) (fault : ℕ) → RestsAmid faults inst before calls z o
    → o ≡ Some fault → AllZip LosesNothing before calls
rest_loses_none faults inst before calls z _ fault (rests_alone rest) e = absurd (none-some fault e)
rest_loses_none faults inst before calls z _ fault (meets_fault c first needs lost met) e = lost

pub no_call_goes_back : NoCallGoesBack
no_call_goes_back faults fault g _ (gone_still gone) e = loses_none g.calls
no_call_goes_back faults fault g _ (stands_still live stands) e = loses_none g.calls
no_call_goes_back faults fault g _ (runs_on {calls = calls} {z = z} {at_fault = o} live faultless come replay rest) e =
    rest_loses_none faults g.inst g.calls calls z o fault rest e

pub none_goes_on_unasked : NoneGoesOnUnasked
none_goes_on_unasked faults fault g _ (gone_still gone) e = refl
none_goes_on_unasked faults fault g _ (stands_still live stands) e = refl
none_goes_on_unasked faults fault g _ (runs_on live faultless come replay rest) e = absurd (none-some fault (sym faultless ∙ e))

-- who stands as before isn't stopped
not_newly : (o : Option ℕ) → newly_stopped o o ≡ 0
not_newly None = refl
not_newly (Some fault) = refl

not_stopped : (o : Option ℕ) → newly_stopped o None ≡ 0
not_stopped None = refl
not_stopped (Some fault) = refl

one_at_most : (o : Option ℕ) (fault : ℕ) → newly_stopped o (Some fault) ≤ 1
one_at_most None fault = omega arith
one_at_most (Some other) fault = omega arith

rest_stops : (faults : List ℕ) (inst : Instance) (before calls : List Call) (z : Standing) (was o : Option ℕ) → RestsAmid faults inst before calls z o
    → newly_stopped was o ≤ length faults
rest_stops faults inst before calls z was _ (rests_alone rest) = let none = not_stopped was in omega (arith, none)
rest_stops faults inst before calls z was _ (meets_fault {fault = fault} c first needs lost met) = search rules

run_stops : (own : List ℕ) (g g2 : NamedInstance) → RunsAmid own g g2 → newly_stopped g.at_fault g2.at_fault ≤ length own
run_stops own g _ (gone_still gone) = let none = not_newly g.at_fault in omega (arith, none)
run_stops own g _ (stands_still live stands) = let none = not_newly g.at_fault in omega (arith, none)
run_stops own g _ (runs_on {calls = calls} {z = z} {at_fault = o} live faultless come replay rest) = rest_stops own g.inst g.calls calls z g.at_fault o rest

mixed_length : (own others all : List ℕ) → AreMixed own others all → length own + length others ≡ length all
mixed_length _ _ _ none_left = refl
mixed_length _ _ _ (one_own {own = own} {others = others} {all = all} mixed) = let rest = mixed_length own others all mixed in omega (arith, rest)
mixed_length _ _ _ (one_other {own = own} {others = others} {all = all} mixed) = let rest = mixed_length own others all mixed in omega (arith, rest)

pub faults_stop_few : FaultsStopFew
faults_stop_few faults [] [] h = omega arith
faults_stop_few faults [] (r ∷ run) h = absurd h
faults_stop_few faults (g ∷ gs) [] h = absurd h
faults_stop_few faults (g ∷ gs) (r ∷ run) h =
    let first = run_stops h.0 g r h.3 in
    let rest = faults_stop_few h.1 gs run h.4 in
    let both = mixed_length h.0 h.1 faults h.2 in
    omega (arith, first, rest, both)
