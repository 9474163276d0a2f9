use Rattle.std.proofs.Common.{◌∙◌, ◌++◌, ap, subst, sym, string_bytes}
use Rattle.wh_script_model.specs.Commands as asked_of
use Rattle.wh_script_model.specs.{scan_ok, reply_text}
use Rattle.wh_engine.proofs.Printings.{on_ok_then}
use Rattle.wh_engine.specs.RepresentedScript.{ScriptHostState}
use Rattle.wh_settings.specs.Hashing.{hashes_by}
use Rattle.wh_settings.specs.View.{hashing_of}
use Rattle.wh_script.specs.Answering.{HasOffered, Obeys}
use Rattle.wh_script.proofs.Obeyed.{scanned}
use Rattle.wh_script.proofs.session.Session.scan.Goals as goal

pub returns-clause-obeys : goal.returns-clause-obeys
returns-clause-obeys g c =
    let e = c.args.self.now.script_host in
    let text2 = string_bytes c.reply.new.self.text in
    on_ok_then c.reply.result c.reply.ensures.printed (λ printed files number.
    subst (λ x. Obeys files number asked_of.scan e (string_bytes c.args.self.now.text) x text2) (sym c.reply.ensures.script_host)
    (scanned files number e c.offer_pages.new.self.script_host (string_bytes c.args.self.now.text) text2 c.offer_pages.ensures.stands
    (printed ∙ ap (λ t. string_bytes t ++ reply_text scan_ok) c.offer_pages.ensures.text)))

pub returns-clause-scans : goal.returns-clause-scans
returns-clause-scans g c =
    let hashes = hashes_by (hashing_of c.args.self.now.config.hash) in
    on_ok_then c.reply.result c.reply.ensures.printed (λ printed.
    subst (λ (x : ScriptHostState g.row.D.Denot). HasOffered hashes c.args.self.now.script_host x) (sym c.reply.ensures.script_host) c.offer_pages.ensures.scans)
