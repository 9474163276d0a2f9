use Rattle.std.proofs.Common.{map, string_bytes}
use Rattle.clap.specs.Words.{HasMatchesOf, IsParsedFrom, app_of}
use Rattle.wasmhost_program.specs.ParsedArguments.{FindsIn}
use Rattle.wasmhost_program.proofs.Parsed.{finds_in, if_both}
use Rattle.wasmhost_program.proofs.arguments.matches_of.Goals as goal

pub returns-clause-finds : goal.returns-clause-finds
returns-clause-finds c =
    let parse = c.try_get_matches_from in
    let command = c.in_ok-accepted.field-0 in
    let words = map string_bytes c.args.words.now in
    if_both parse.result (λ m. IsParsedFrom command m) (HasMatchesOf (app_of command) words) (FindsIn words)
    (λ m parsed matches. finds_in words command m c.in_ok-accepted.ensures parsed matches)
    parse.ensures.parsed parse.ensures.matches
