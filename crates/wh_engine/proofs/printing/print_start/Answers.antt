use Rattle.std.proofs.Common.{[], Some, refl, ap, sym, subst, ◌∙◌, option_map, string_bytes}
use Rattle.std.proofs.lemmas.Option.{same_Some}
use Rattle.wh_script_model.specs.{call_status, has_none}
use Rattle.wh_replies.specs.View.{status_of}
use Rattle.wh_script_laws.specs.Printed.{WasPrinted}
use Rattle.wh_engine.proofs.Printings.{adds_none, no_start, starts_so}
use Rattle.wh_engine.proofs.printing.print_start.Goals as goal

pub returns-then-not-instance : goal.returns-then-not-instance
returns-then-not-instance c i g k is shows first was =
    let none = no_start g (λ has. cc (is.starts.1 has, c.if-not-instance.true)) in
    ([], g, has_none none.0 none.1, adds_none (string_bytes c.args.text.now), is, refl)

pub returns : goal.returns
returns c i g k is shows first was =
    let has = is.starts.0 c.if-not-instance.false in
    let d = c.status_now.ensures g k shows first (λ gone. subst (WasPrinted g 0 k) (sym is.last_printed) (was gone has)) in
    let status = c.in-Some.status in
    let same = same_Some d.0 status (sym d.1 ∙ c.in-Some.is) in
    let e = ap status_of (sym same) ∙ d.2 in
    let s = c.in_ok-print_line.ensures in (
      s.0,
      record g { last_printed = Some (call_status g 0 k) },
      starts_so g k c.deref.result.now (option_map status_of c.args.instance.now.last_printed) (status_of status) s.0 (c.deref.ensures ∙ is.name) is.last_printed e has first s.1,
      s.2,
      record { number = is.number; name = is.name; starts = is.starts; released = is.released; last_printed = ap Some e },
      refl,
    )
