-- Which methods a resource has, and who may ask for it.
use Rattle.std.specs.Prelude.{ℕ, Bool, true, false, List, [], ◌∷◌, codes}
use Rattle.wh_routes.specs.declared.route.InstancePart.{InstancePart}
use Rattle.wh_routes.specs.declared.route.InstancePart.TheVariants.{Itself, Calls, Call, Fuel, Cancel, Retry, Output, Memory, Transcript, Forgotten}
use Rattle.wh_routes.specs.declared.route.Route.{Route}
use Rattle.wh_routes.specs.declared.route.Route.TheVariants.{Page, Health, Ready, Metrics, Report, Epoch, Scan, Stop, Modules, Module, Exports, Instances, Instance}
use Rattle.wh_tokens.specs.declared.grants.Who.{Who}
use Rattle.wh_tokens.specs.declared.grants.Who.TheVariants.{Operator, Tenant}
use Rattle.wh_front.specs.declared.methods.Methods.{Methods}
use Rattle.wh_front.specs.declared.methods.Methods.TheVariants.{Get, Put, Post, GetPut, GetPost, GetPutDelete}

-- whoever asks needs no token
abbrev pub is_open_to_all : Route → Bool
is_open_to_all Page = true
is_open_to_all Health = true
is_open_to_all Ready = true
is_open_to_all _ = false

-- a tenant may not ask for it
abbrev pub is_for_operator : Route → Bool
is_for_operator Metrics = true
is_for_operator Report = true
is_for_operator Epoch = true
is_for_operator Scan = true
is_for_operator Stop = true
is_for_operator _ = false

abbrev pub is_a_tenant : Who → Bool
is_a_tenant Operator = false
is_a_tenant (Tenant n) = true

-- the methods of a part of an instance
abbrev pub part_methods : InstancePart → Methods
part_methods Itself = GetPutDelete
part_methods Calls = GetPost
part_methods (Call k) = GetPut
part_methods (Fuel k) = Put
part_methods (Cancel k) = Post
part_methods (Retry k) = Post
part_methods Output = Get
part_methods Memory = Get
part_methods Transcript = Get
part_methods Forgotten = GetPut

-- those of a resource
abbrev pub methods_in : Route → Methods
methods_in Page = Get
methods_in Health = Get
methods_in Ready = Get
methods_in Metrics = Get
methods_in Report = Get
methods_in Epoch = Post
methods_in Scan = Post
methods_in Stop = Post
methods_in Modules = Get
methods_in (Module digest) = GetPutDelete
methods_in (Exports digest) = Get
methods_in Instances = Get
methods_in (Instance name part) = part_methods part

abbrev pub telling : List (List ℕ)
telling = codes "GET" ∷ codes "HEAD" ∷ []

-- their names
abbrev pub method_names : Methods → List (List ℕ)
method_names Get = telling
method_names Put = codes "PUT" ∷ []
method_names Post = codes "POST" ∷ []
method_names GetPut = codes "GET" ∷ codes "HEAD" ∷ codes "PUT" ∷ []
method_names GetPost = codes "GET" ∷ codes "HEAD" ∷ codes "POST" ∷ []
method_names GetPutDelete = codes "GET" ∷ codes "HEAD" ∷ codes "PUT" ∷ codes "DELETE" ∷ []

-- these, as an `Allow` field has them
abbrev pub methods_text : Methods → List ℕ
methods_text Get = codes "GET, HEAD"
methods_text Put = codes "PUT"
methods_text Post = codes "POST"
methods_text GetPut = codes "GET, HEAD, PUT"
methods_text GetPost = codes "GET, HEAD, POST"
methods_text GetPutDelete = codes "GET, HEAD, PUT, DELETE"
