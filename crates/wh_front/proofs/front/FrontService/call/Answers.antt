use Rattle.std.proofs.Common.{refl, sym, ap, subst, ◌∙◌}
use Rattle.std.proofs.lemmas.Result.{on_ok_weaker}
use Rattle.http_uri.specs.Uri.{uri_path}
use Rattle.wh_routes.specs.Paths.{NamesRoute}
use Rattle.wh_tokens.specs.declared.grants.Who.{Who}
use Rattle.wh_front.specs.Askers.{IsFrom}
use Rattle.wh_front.proofs.Cases.{path_named, route_refused}
use Rattle.wh_front.proofs.front.FrontService.call.Goals as goal

pub returns-in_default-who_asks-clause-ok : goal.returns-in_default-who_asks-clause-ok
returns-in_default-who_asks-clause-ok g c =
    let path = c.as_bytes.ensures.value ∙ (c.path.ensures.value ∙ ap uri_path c.uri.ensures) in
    let names = subst (λ p. NamesRoute p c.in-Some.to) path c.in-Some.ensures.found in
    let closed = sym c.is_open.ensures ∙ c.if-is_open.false in
    let none = subst (λ grants. (who : Who) → ¬ (IsFrom grants c.args.request.now who)) c.deref.ensures.value c.in_default-who_asks.ensures.none in
    on_ok_weaker c.refuse_token.result
    (λ fault. (
      refl,
      path_named g.R.Resources.answers c.args.self.now.grants.items c.args.self.now.resources c.in-Some.to c.args.request.now
          c.refuse_token.new.response c.args.self.now.resources names
          (route_refused g.R.Resources.answers c.args.self.now.grants.items c.args.self.now.resources c.in-Some.to c.args.request.now
          c.refuse_token.new.response c.args.self.now.resources closed none fault refl),
    ))
    c.refuse_token.ensures
