use Rattle.std.proofs.Common.{◌≡◌, List, length, subst, arith, rules}
use Rattle.wh_space_model.specs.declared.plain.InstId.{InstId}
use Rattle.wh_tables.specs.declared.tables.Tables.TheInside.{Inside}
use Rattle.wh_tables.specs.Line.{IsLineOf}
use Rattle.wh_tables.specs.Tables.{IsTables, TablesState, tables_of}
use Rattle.wh_tables.proofs.Lines.{sought_after, sought_first, sought_found, sought_more, sought_none}
use Rattle.wh_tables.proofs.tables.Tables.next_instance.Goals.{in-Some, in-None}
use Rattle.wh_tables.proofs.tables.Tables.next_instance.Goals as goal

numbered : (a : Inside) (s : TablesState) (line : List InstId) → tables_of a ≡ s → IsLineOf a.index.chains.numbers line → IsLineOf s.numbers line
numbered a s line view is = subst (λ (z : TablesState). IsLineOf z.numbers line) view is

long : (a : Inside) (s : TablesState) → tables_of a ≡ s → IsTables a → length s.numbers ≡ length s.pages
long a s view kept = subst (λ (z : TablesState). length z.numbers ≡ length z.pages) view kept.index.measured.places

pub loop-rank-init : goal.loop-rank-init
loop-rank-init c =
    elim c.match-after.branch [
      | in-Some w ↦ (let is = numbered c.self.inside c.args.self.now c.line-line.result.now c.self.view_is c.line-line.ensures in rw (w.in-Some.is, w.from-is) (sought_after c.args.self.now.pages c.args.self.now.numbers w.in-Some.number c.line-line.result.now w.rank_above-from.result is w.rank_above-from.ensures.within w.rank_above-from.ensures.split))
      | in-None w ↦ rw (w.in-None.is, w.from-is) (sought_first c.args.self.now.pages c.args.self.now.numbers c.line-line.result.now)
    ]

pub returns-then-len_at-gt0-clause-some : goal.returns-then-len_at-gt0-clause-some
returns-then-len_at-gt0-clause-some c = search (rules, sought_found, numbered, long)

pub loop-rank-preserved : goal.loop-rank-preserved
loop-rank-preserved c =
    sought_more c.args.self.now.pages c.args.self.now.numbers c.args.after c.line-line.result.now c.loop-rank.rank (record { place = 0; number = 0 }) c.loop-rank.invariant c.loop-rank-test.true
    (omega (arith, c.len_at.ensures, c.if-len_at-gt0.false))

pub returns-clause-none : goal.returns-clause-none
returns-clause-none c = search (rules, sought_none, numbered, long)
