-- The charges of a host are the same in whatever host of the definitions it represents.
use Rattle.std.proofs.Common.{◌≡◌, ℕ, zero, suc, List, [], ◌∷◌, ◌++◌, drop, length, get_or, Option, Some, None, refl, sym, ap, subst, ◌∙◌, arith}
use Rattle.std.specs.List.{sum_by}
use Rattle.std.proofs.lemmas.List.Sums.{sum_by-cons}
use Rattle.wh_host_model.specs.Host.{Tenant, World, journal, own_calls, tenant}
use Rattle.wh_host_model.specs.{Entry}
use Rattle.wh_journal.specs.Calls.{JournalCallState}
use Rattle.wh_instance.specs.Tenancy.{RepresentsEach}
use Rattle.wh_host.specs.declared.parts.InstanceEntry.{InstanceEntry}
use Rattle.wh_host.specs.Hosting.{HostState, IsHost, IsEntryOf, entry_at}
use Rattle.wh_cell.specs.Charging.{charges_in, charges_by, FitsBook, HasTaken}
use Rattle.wh_cell.specs.LeftByOwner.{FitsHost, HasTakenOn}
use Rattle.wh_cell.proofs.Counted.{charges_at, fits_taken}

-- what the code has of a journal
abbrev code_charges : List JournalCallState → ℕ
code_charges cs = sum_by (λ (c : JournalCallState). c.charges) cs

same_charges : (cs : List JournalCallState) (es : List Entry) → RepresentsEach cs es → charges_in es ≡ code_charges cs
same_charges [] [] h = refl
same_charges [] (e ∷ es) h = absurd h
same_charges (c ∷ cs) [] h = absurd h
same_charges (c ∷ cs) (e ∷ es) h =
    omega (arith, h.0.charges, same_charges cs es h.1, sum_by-cons charges_at e es, sum_by-cons (λ (x : JournalCallState). x.charges) c cs)

both_each : (cs ds : List JournalCallState) (es fs : List Entry) → RepresentsEach cs es → RepresentsEach ds fs → RepresentsEach (cs ++ ds) (es ++ fs)
both_each [] ds [] fs h g = g
both_each [] ds (e ∷ es) fs h g = absurd h
both_each (c ∷ cs) ds [] fs h g = absurd h
both_each (c ∷ cs) ds (e ∷ es) fs h g = (h.0, both_each cs ds es fs h.1 g)

rest_each : (k : ℕ) (cs : List JournalCallState) (es : List Entry) → RepresentsEach cs es → RepresentsEach (drop k cs) (drop k es)
rest_each zero cs es h = h
rest_each (suc k) [] [] h = h
rest_each (suc k) [] (e ∷ es) h = absurd h
rest_each (suc k) (c ∷ cs) [] h = absurd h
rest_each (suc k) (c ∷ cs) (e ∷ es) h = rest_each k cs es h.1

abbrev resident_charges : InstanceEntry → ℕ
resident_charges x = code_charges (drop x.copied (x.tenant.journal.ended ++ x.tenant.journal.open_calls))

tenant_charges : (h : HostState) (w : World) (i : ℕ) (t : Tenant) (x : InstanceEntry) → IsEntryOf h.modules x w.space i t → charges_in (own_calls t) ≡ resident_charges x
tenant_charges h w i t x r =
    let cs = x.tenant.journal.ended in
    let ds = x.tenant.journal.open_calls in
    ap (λ k. charges_in (drop k (journal t))) (sym r.copied)
    ∙ same_charges (drop x.copied (cs ++ ds)) (drop x.copied (journal t)) (rest_each x.copied (cs ++ ds) (journal t) (both_each cs ds t.ended t.open_calls r.is.ended r.is.open_calls))

some_is : {A : Type 0} (x y : A) → Some x ≡ Some y → x ≡ y
some_is x y e = cc e

-- an instance of the one is one of the other, with as many charges
one_alike : (h : HostState) (w w2 : World) (i : ℕ) (t : Tenant) → IsHost h w → IsHost h w2 → tenant w i ≡ Some t → (u : Tenant) × (tenant w2 i ≡ Some u) × (charges_in (own_calls t) ≡ charges_in (own_calls u))
one_alike h w w2 i t st st2 live =
    let f = st.there i t live in
    let g = st2.all t.place i f.0 f.1 f.2.number in
    let back = st2.there i g.0 g.1 in
    let same : back.0 ≡ f.0 = some_is back.0 f.0 (sym back.1 ∙ ap (entry_at h.entries) g.2 ∙ f.1) in
    (g.0, g.1, tenant_charges h w i t f.0 f.2 ∙ ap resident_charges (sym same) ∙ sym (tenant_charges h w2 i g.0 back.0 back.2))

by_number : (h : HostState) (w w2 : World) (i : ℕ) → IsHost h w → IsHost h w2 → charges_by (tenant w i) ≡ charges_by (tenant w2 i)
by_number h w w2 i st st2 = of_both (tenant w i) (tenant w2 i) refl refl where
  of_both : (o p : Option Tenant) → tenant w i ≡ o → tenant w2 i ≡ p → charges_by (tenant w i) ≡ charges_by (tenant w2 i)
  of_both None None a b = ap charges_by a ∙ sym (ap charges_by b)
  of_both (Some t) p a b = let o = one_alike h w w2 i t st st2 a in ap charges_by a ∙ o.2 ∙ sym (ap charges_by o.1)
  of_both None (Some u) a b = let o = one_alike h w2 w i u st2 st b in absurd (let bad : None ≡ Some o.0 = sym a ∙ o.1 in cc bad)

-- lists that are as long, with the same at each place, have one sum
same_sums : (ts us : List (Option Tenant)) → length ts ≡ length us → ((i : ℕ) → charges_by (get_or ts i None) ≡ charges_by (get_or us i None)) → sum_by charges_by ts ≡ sum_by charges_by us
same_sums [] [] long each = refl
same_sums [] (u ∷ us) long each = absurd (omega (arith, long))
same_sums (t ∷ ts) [] long each = absurd (omega (arith, long))
same_sums (t ∷ ts) (u ∷ us) long each =
    let rest = same_sums ts us (omega (arith, long)) (λ i. each (suc i)) in
    omega (arith, rest, each zero, sum_by-cons charges_by t ts, sum_by-cons charges_by u us)

pub charged_alike : (h : HostState) (w w2 : World) → IsHost h w → IsHost h w2 → HasTaken w 0 w2
charged_alike h w w2 st st2 =
    let long : length w.tenants ≡ length w2.tenants = sym st.next ∙ st2.next in
    record {
      charges = (let same = same_sums w.tenants w2.tenants long (λ i. by_number h w w2 i st st2) in omega (arith, same));
      live = sym st2.live ∙ st.live;
      admitted = sym long;
    }

-- what fits one of them fits all
pub fits_each : (h : HostState) (w : World) (total : ℕ) → IsHost h w → FitsBook w total → FitsHost h total
fits_each h w total st f w2 st2 = subst (FitsBook w2) (omega arith) (fits_taken w w2 0 total (charged_alike h w w2 st st2) f)

-- the book fits the host to which a change leads
pub fits_on : (h h2 : HostState) (w : World) (total total2 : ℕ) → IsHost h w → FitsHost h total
    → (w2 : World) × IsHost h2 w2 × (FitsBook w total → FitsBook w2 total2) → FitsHost h2 total2
fits_on h h2 w total total2 st f then = fits_each h2 then.0 total2 then.1 (then.2 (f w st))

taken_alike : (a b c d : World) (n : ℕ) → HasTaken a 0 b → HasTaken b n c → HasTaken c 0 d → HasTaken a n d
taken_alike a b c d n x y z = record {
  charges = omega (arith, x.charges, y.charges, z.charges);
  live = z.live ∙ y.live ∙ x.live;
  admitted = z.admitted ∙ y.admitted ∙ x.admitted;
}

pub taken_each : (h h2 : HostState) (w w2 : World) (n : ℕ) → IsHost h w → IsHost h2 w2 → HasTaken w n w2 → HasTakenOn h n h2
taken_each h h2 w w2 n st st2 t v v2 sv sv2 = taken_alike v w w2 v2 n (charged_alike h v w sv st) t (charged_alike h2 w2 v2 st2 sv2)
