-- A trace goes on by a reply.
use Rattle.std.proofs.Common.{◌≡◌, ◌+◌, ℕ, List, length, suc, sym, ap, subst, ◌∙◌, arith}
use Rattle.wh_space_model.specs.declared.plain.SwapError.{SwapError}
use Rattle.wh_space_model.specs.declared.Tax.{Tax}
use Rattle.wh_host.specs.Hosting.{HostState, IsNewHost}
use Rattle.wh_cell.specs.Knowing.{KnownState}
use Rattle.wh_cell.specs.LeftByOwner.{LeftState}
use Rattle.wh_cell.specs.Locking.{IsInStep, LockedState, now_of}
use Rattle.wh_cell.specs.Owning.{ComesOn}
use Rattle.wh_desk.specs.declared.principal.Principal.{Principal}
use Rattle.wh_desk.specs.declared.request.DeskReply.{DeskReply}
use Rattle.wh_desk.specs.declared.request.DeskRequest.{DeskRequest}
use Rattle.wh_desk.specs.declared.trace.Trace.{Trace}
use Rattle.wh_desk.specs.declared.trace.TraceEntry.{TraceEntry}
use Rattle.wh_desk.specs.Bounded.{OwnsAll}
use Rattle.wh_desk.specs.Permits.{OwnershipState, owned_after}
use Rattle.wh_desk.specs.Questions.{question_of}
use Rattle.wh_desk.specs.Replying.{IsRight}
use Rattle.wh_desk.specs.Tracing.{Follows, IsLedThere, IsTrace, Replies, entry, left_by, owned_in, trace_from, with_entry}
use Rattle.wh_desk.proofs.Others.{others_stay}
use Rattle.wh_desk.proofs.Owning.{worked}

module _ {D : Type 0} where
  -- what is known after the owner was told
  now_same : (l l2 : LockedState D) → l2.host ≡ l.host → l2.known ≡ l.known → now_of l2 ≡ now_of l
  now_same l l2 host known =
      ap (λ (h : HostState). (let z : LeftState D = record { host = h; device = l2.known.device } in z)) host
      ∙ ap (λ (k : KnownState D). (let z : LeftState D = record { host = l.host; device = k.device } in z)) known

  pub told : (l l2 : LockedState D) (at : LeftState D) → at ≡ now_of l2 → l2.host ≡ l.host → l2.known ≡ l.known → at ≡ now_of l
  told l l2 at knows host known = knows ∙ now_same l l2 host known

  -- the entry of what was asked, replied, found and left
  pub entered : (who : Principal) (a a2 : DeskRequest) (r r2 : DeskReply) (x x2 y y2 : LeftState D) (t t2 : Trace D)
      → t2 ≡ with_entry (entry who (question_of a) r x y) t → a ≡ a2 → r ≡ r2 → x ≡ x2 → y ≡ y2
      → t2 ≡ with_entry (entry who (question_of a2) r2 x2 y2) t
  entered who a a2 r r2 x x2 y y2 t t2 is same_request same_reply same_at same_left =
      is
      ∙ ap (λ (z : DeskRequest). with_entry (entry who (question_of z) r x y) t) same_request
      ∙ ap (λ (z : DeskReply). with_entry (entry who (question_of a2) z x y) t) same_reply
      ∙ ap (λ (z : LeftState D). with_entry (entry who (question_of a2) r2 z y) t) same_at
      ∙ ap (λ (z : LeftState D). with_entry (entry who (question_of a2) r2 x2 z) t) same_left

  -- of one entry more the last host, whose is what, and how many there are
  pub left_so : (e : TraceEntry D) (t t2 : Trace D) → t2 ≡ with_entry e t → e.left ≡ left_by t2.first t2.entries
  left_so e t t2 is = ap (λ (z : Trace D). left_by z.first z.entries) (sym is)

  pub owned_so : (e : TraceEntry D) (t t2 : Trace D) (owned owned2 : OwnershipState) → t2 ≡ with_entry e t → owned ≡ owned_in t.entries
      → owned2 ≡ owned_after e.who e.question e.reply owned → owned2 ≡ owned_in t2.entries
  owned_so e t t2 owned owned2 is before after =
      after ∙ ap (owned_after e.who e.question e.reply) before ∙ ap (λ (z : Trace D). owned_in z.entries) (sym is)

  pub counted_so : (e : TraceEntry D) (t t2 : Trace D) (n m : ℕ) → t2 ≡ with_entry e t → n ≡ length t.entries → m ≡ n + 1 → m ≡ length t2.entries
  counted_so e t t2 n m is before after =
      let one : length t2.entries ≡ suc (length t.entries) = ap (λ (z : Trace D). length z.entries) is in
      omega (arith, before, after, one)

module _ {D : Type 0} (held : D → List (List ℕ)) (keeps honest : D → Type 0) (faults : D → List SwapError) where
  pub follows_so : (t : Trace D) (e : TraceEntry D) (l : LockedState D) (owner : LeftState D) (owned : OwnershipState)
      → owner ≡ left_by t.first t.entries → owned ≡ owned_in t.entries → IsInStep held keeps honest faults l → e.at ≡ now_of l
      → ComesOn keeps honest faults owner (now_of l) → IsRight keeps honest faults owned e → Follows keeps honest faults t.first t.entries e
  follows_so t e l owner owned is_owner is_owned found at came right = record {
    came = subst (λ (z : LeftState D). ComesOn keeps honest faults z e.at) is_owner (subst (ComesOn keeps honest faults owner) (sym at) came);
    led = subst (IsLedThere honest) (sym at) (record { device = found.device; has = found.agrees.has; led = found.led });
    right = subst (λ (z : OwnershipState). IsRight keeps honest faults z e) is_owned right;
  }

module _ {D : Type 0} (keeps honest : D → Type 0) (faults : D → List SwapError) where
  pub goes_on : (t t2 : Trace D) (e : TraceEntry D) → IsTrace keeps honest faults t → Follows keeps honest faults t.first t.entries e
      → t2 ≡ with_entry e t → IsTrace keeps honest faults t2
  goes_on t t2 e lived follows is = subst (IsTrace keeps honest faults) (sym is) (record {
    frames = lived.frames;
    slots = lived.slots;
    tax = lived.tax;
    new = lived.new;
    all = (follows, lived.all);
  })

  pub replies_so : (t t2 : Trace D) (e : TraceEntry D) → Follows keeps honest faults t.first t.entries e → t2 ≡ with_entry e t
      → Replies keeps honest faults t e.who e.question e.reply t2
  replies_so t t2 e follows is =
      record { at = e.at; left = e.left; entered = is; follows = follows; own = others_stay keeps honest faults (owned_in t.entries) e follows.right }

  pub begins_so : (t : Trace D) (first : LeftState D) → t ≡ trace_from first
      → (frames slots : ℕ) × (tax : Tax) × IsNewHost first.host frames slots tax → IsTrace keeps honest faults t
  begins_so t first is new =
      subst (IsTrace keeps honest faults) (sym is) (record { frames = new.0; slots = new.1; tax = new.2; new = new.3; all = tt })

  -- each instance is somebody's in the host that is found
  pub found_owned : (owned : OwnershipState) (owner at : LeftState D) (l : LockedState D) → at ≡ now_of l → ComesOn keeps honest faults owner (now_of l)
      → OwnsAll owned owner.host → OwnsAll owned at.host
  found_owned owned owner at l is came owns = worked keeps honest faults owned owner at (subst (ComesOn keeps honest faults owner) (sym is) came) owns
