-- What contracts see of a trace can be stored: as its parts.
use Rattle.std.specs.Prelude.{List, refl}
use Rattle.std.specs.Coded.{Coded, code_by, coded_list, coded×}
use Rattle.wh_cell.specs.LeftByOwner.{LeftState}
use Rattle.wh_cell.specs.Stored.{stored_left}
use Rattle.wh_desk.specs.contracts.principal.Principal as principal_type
use Rattle.wh_desk.specs.contracts.request.DeskReply as reply_type
use Rattle.wh_desk.specs.contracts.trace.Question as question_type
use Rattle.wh_desk.specs.declared.principal.Principal.{Principal}
use Rattle.wh_desk.specs.declared.request.DeskReply.{DeskReply}
use Rattle.wh_desk.specs.declared.trace.Question.{Question}
use Rattle.wh_desk.specs.declared.trace.Trace.{Trace}
use Rattle.wh_desk.specs.declared.trace.TraceEntry.{TraceEntry}

abbrev pub stored_entry : {D : Type 0} → Coded D → Coded (TraceEntry D)
stored_entry {D} code =
    code_by (Principal × (Question × (DeskReply × (LeftState D × LeftState D))))
    (coded× principal_type.the_row.coded
    (coded× question_type.the_row.coded
    (coded× reply_type.the_row.coded (coded× (stored_left code) (stored_left code)))))
    (λ e. (e.who, (e.question, (e.reply, (e.at, e.left)))))
    (λ p. record { who = p.0; question = p.1.0; reply = p.1.1.0; at = p.1.1.1.0; left = p.1.1.1.1 })
    (λ _. refl)

abbrev pub stored_trace : {D : Type 0} → Coded D → Coded (Trace D)
stored_trace {D} code =
    code_by (LeftState D × List (TraceEntry D)) (coded× (stored_left code) (coded_list (stored_entry code)))
    (λ t. (t.first, t.entries)) (λ p. record { first = p.0; entries = p.1 }) (λ _. refl)
