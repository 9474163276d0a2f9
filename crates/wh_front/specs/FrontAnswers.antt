-- What a request is answered.
use Rattle.std.specs.Prelude.{◌≡◌, ℕ, ◌⊎◌, ◌&&◌, List, [], Option, None, Some}
use Rattle.std.specs.Bool.{MatchBool}
use Rattle.http.specs.declared.request.Request.{Request}
use Rattle.http.specs.Method.{is_among}
use Rattle.http.specs.Request.{head_of}
use Rattle.http_uri.specs.Uri.{uri_path}
use Rattle.http_server.specs.declared.response.Response.{Response}
use Rattle.wh_routes.specs.declared.route.Route.{Route}
use Rattle.wh_routes.specs.Paths.{NamesRoute}
use Rattle.wh_tokens.specs.declared.grants.Who.{Who}
use Rattle.wh_tokens.specs.declared.grants.Grant.{Grant}
use Rattle.wh_front.specs.declared.faults.TheConstants.{NO_RESOURCE, NO_TOKEN, OTHER_TOKEN, NO_METHOD}
use Rattle.wh_front.specs.Access.{is_open_to_all, is_for_operator, is_a_tenant, methods_in, method_names}
use Rattle.wh_front.specs.Askers.{IsFrom}
use Rattle.wh_front.specs.Faults.{IsFrontFault, bearer_fields, allow_fields}

module _ {R : Type 0} (answers : R → Option Who → Route → Request (List ℕ) → Response → R → Type 0) where
  -- by the resource, if the method is one of its own; else by 405, with nothing changed
  abbrev pub ServesMethod : R → Option Who → Route → Request (List ℕ) → Response → R → Type 0
  ServesMethod old who to request response new = MatchBool (is_among (method_names (methods_in to)) (head_of request).method)
      (answers old who to request response new)
      (IsFrontFault 405 (allow_fields (methods_in to)) NO_METHOD.now response × (new ≡ old))

  -- by 403, if it is for operators and a tenant asks
  abbrev pub ServesWho : R → Who → Route → Request (List ℕ) → Response → R → Type 0
  ServesWho old who to request response new = MatchBool (is_for_operator to && is_a_tenant who)
      (IsFrontFault 403 [] OTHER_TOKEN.now response × (new ≡ old))
      (ServesMethod old (Some who) to request response new)

  -- by 401, if it wants a token and has no good one
  abbrev pub ServesRoute : List Grant → R → Route → Request (List ℕ) → Response → R → Type 0
  ServesRoute grants old to request response new = MatchBool (is_open_to_all to)
      (ServesMethod old None to request response new)
      (((who : Who) × IsFrom grants request who × ServesWho old who to request response new)
      ⊎ (((who : Who) → ¬ (IsFrom grants request who)) × IsFrontFault 401 bearer_fields NO_TOKEN.now response × (new ≡ old)))

  -- by 404, if the path names no resource
  abbrev pub ServesPath : List Grant → R → Request (List ℕ) → Response → R → Type 0
  ServesPath grants old request response new =
      ((to : Route) × NamesRoute (uri_path (head_of request).uri) to × ServesRoute grants old to request response new)
      ⊎ (((to : Route) → ¬ (NamesRoute (uri_path (head_of request).uri) to)) × IsFrontFault 404 [] NO_RESOURCE.now response × (new ≡ old))
