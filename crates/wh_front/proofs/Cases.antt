-- A request without a good token.
use Rattle.std.proofs.Common.{◌≡◌, ℕ, ◌⊎◌, inl, inr, Bool, true, false, MatchBool, Option, None, List}
use Rattle.http.specs.declared.request.Request.{Request}
use Rattle.http.specs.Request.{head_of}
use Rattle.http_uri.specs.Uri.{uri_path}
use Rattle.http_server.specs.declared.response.Response.{Response}
use Rattle.wh_routes.specs.declared.route.Route.{Route}
use Rattle.wh_routes.specs.Paths.{NamesRoute}
use Rattle.wh_tokens.specs.declared.grants.Who.{Who}
use Rattle.wh_tokens.specs.declared.grants.Grant.{Grant}
use Rattle.wh_front.specs.declared.faults.TheConstants.{NO_TOKEN}
use Rattle.wh_front.specs.Access.{is_open_to_all}
use Rattle.wh_front.specs.Askers.{IsFrom}
use Rattle.wh_front.specs.Faults.{IsFrontFault, bearer_fields}
use Rattle.wh_front.specs.FrontAnswers.{ServesMethod, ServesWho, ServesRoute, ServesPath}

on_false : (t : Bool) (P Q : Type 0) → t ≡ false → Q → MatchBool t P Q
on_false true P Q e q = absurd (cc)
on_false false P Q e q = q

pub route_refused : {R : Type 0} (answers : R → Option Who → Route → Request (List ℕ) → Response → R → Type 0)
    (grants : List Grant) (old : R) (to : Route) (request : Request (List ℕ)) (response : Response) (new : R)
    → is_open_to_all to ≡ false → ((who : Who) → ¬ (IsFrom grants request who)) → IsFrontFault 401 bearer_fields NO_TOKEN.now response
    → new ≡ old → ServesRoute answers grants old to request response new
route_refused answers grants old to request response new e none h same =
    on_false (is_open_to_all to) (ServesMethod answers old None to request response new)
    (((who : Who) × IsFrom grants request who × ServesWho answers old who to request response new)
    ⊎ (((who : Who) → ¬ (IsFrom grants request who)) × IsFrontFault 401 bearer_fields NO_TOKEN.now response × (new ≡ old))) e
    (inr (none, h, same))

pub path_named : {R : Type 0} (answers : R → Option Who → Route → Request (List ℕ) → Response → R → Type 0)
    (grants : List Grant) (old : R) (to : Route) (request : Request (List ℕ)) (response : Response) (new : R)
    → NamesRoute (uri_path (head_of request).uri) to → ServesRoute answers grants old to request response new
    → ServesPath answers grants old request response new
path_named answers grants old to request response new names h = inl (to, names, h)
