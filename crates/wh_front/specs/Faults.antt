-- What the front answers by itself.
use Rattle.std.specs.Prelude.{ℕ, List, [], ◌∷◌, ◌++◌, codes}
use Rattle.http1.specs.Fields.{Header}
use Rattle.http_server.specs.declared.response.Response.{Response}
use Rattle.http_server.specs.Response.{IsResponse}
use Rattle.wh_front.specs.declared.methods.Methods.{Methods}
use Rattle.wh_front.specs.Access.{methods_text}

-- the status, these fields, that the body is JSON, and the body
abbrev pub IsFrontFault : ℕ → List Header → List ℕ → Response → Type 0
IsFrontFault code sent text response = IsResponse code (sent ++ (codes "content-type", codes "application/json") ∷ []) text response

abbrev pub bearer_fields : List Header
bearer_fields = (codes "www-authenticate", codes "Bearer") ∷ []

abbrev pub allow_fields : Methods → List Header
allow_fields methods = (codes "allow", methods_text methods) ∷ []
