-- Who asks.
use Rattle.std.specs.Prelude.{◌≡◌, ℕ, List, Some, codes}
use Rattle.http_header.specs.FieldValue.{FieldValue}
use Rattle.http_header.specs.HeaderMap.{get}
use Rattle.http.specs.declared.request.Request.{Request}
use Rattle.http.specs.Request.{head_of}
use Rattle.sha2.specs.Sha256.{sha256}
use Rattle.wh_tokens.specs.declared.grants.Who.{Who}
use Rattle.wh_tokens.specs.declared.grants.Grant.{Grant}
use Rattle.wh_tokens.specs.TokenOwners.{owner_in}
use Rattle.wh_tokens.specs.Bearer.{CarriesToken}

-- the request's first `Authorization` field carries a token, which is whose by these grants
pub record IsFrom (grants : List Grant) (request : Request (List ℕ)) (who : Who) : Type 0 where
  pub value : FieldValue
  pub field : get (head_of request).headers (codes "authorization") ≡ Some value
  pub token : List ℕ
  pub carried : CarriesToken value.bytes token
  pub granted : owner_in grants (sha256 token) ≡ Some who
