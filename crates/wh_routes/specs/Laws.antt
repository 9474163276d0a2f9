-- What holds of the definitions alone.
use Rattle.std.specs.Prelude.{◌≡◌, ℕ, List}
use Rattle.wh_routes.specs.declared.route.Route.{Route}
use Rattle.wh_routes.specs.declared.route.Route.TheVariants.{Instance}
use Rattle.wh_routes.specs.Paths.{NamesRoute}

-- they are the same resource, wherever their names are stored
abbrev pub IsSameRoute : Route → Route → Type 0
IsSameRoute (Instance name part) (Instance other its) = (name.now ≡ other.now) × (part ≡ its)
IsSameRoute route other = route ≡ other

-- a path names one resource at most
abbrev pub NamesOnce : Type 0
NamesOnce = (path : List ℕ) (route other : Route) → NamesRoute path route → NamesRoute path other → IsSameRoute route other
