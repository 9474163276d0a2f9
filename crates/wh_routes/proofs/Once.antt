-- A path names one resource at most.
use Rattle.std.proofs.Common.{rules, ◌≡◌, ℕ, ◌<◌, List, All, ap}
use Rattle.std.proofs.lemmas.Fmt.{decimal_injective}
use Rattle.hex.specs.Hex.{encode_lower, decode_of}
use Rattle.hex.proofs.HexLemmas.{decode_of-encode_lower}
use Rattle.wh_routes.specs.declared.route.InstancePart.{InstancePart}
use Rattle.wh_routes.specs.declared.route.Route.{Route}
use Rattle.wh_routes.specs.Paths.{part_pieces, route_pieces, IsPart, IsRoute}
use Rattle.wh_routes.specs.Laws.{IsSameRoute, NamesOnce}
use Rattle.wh_routes.proofs.Digests.{are_bytes}
use Rattle.wh_routes.proofs.Slashes.{pieces_named}

hex_injective : (d e : List ℕ) → All (λ b. b < 256) d → All (λ b. b < 256) e → encode_lower d ≡ encode_lower e → d ≡ e
hex_injective d e hd he same =
    let x = decode_of-encode_lower d (are_bytes d hd) in
    let y = decode_of-encode_lower e (are_bytes e he) in
    let z = ap decode_of same in
    cc

same_part : (part other : InstancePart) → IsPart part → IsPart other → part_pieces part ≡ part_pieces other → part ≡ other
same_part part other h k e = search (rules, decimal_injective)

same_route : (route other : Route) → IsRoute route → IsRoute other → route_pieces route ≡ route_pieces other → IsSameRoute route other
same_route route other h k e = search (rules, hex_injective, same_part)

pub one_resource : NamesOnce
one_resource path route other h k =
    let x = pieces_named path route h in
    let y = pieces_named path other k in
    same_route route other h.0 k.0 cc
