-- Reading the parts of a module.
use Rattle.std.proofs.Common.{◌≡◌, ℕ, zero, suc, ◌+◌, ◌-◌, Bool, true, false, [], ◌++◌, Ok, Some, None, eqb, Decides, IsUtf8}
use Rattle.std.proofs.Math.ListN.{replicate}
use Rattle.std.proofs.lemmas.Bool.{eqb-true, eq-eqb}
use Rattle.std.proofs.lemmas.Str.{IsUtf8-from_is_utf8, is_utf8-from_IsUtf8}
use Rattle.std.specs.Str.{is_utf8}
use Rattle.wh_model.specs.declared.faults.FaultKind.TheVariants.{UnknownByte, Utf8, CountMismatch}
use Rattle.wh_model.specs.Format.Grammar.{Grammar, ◌>>=◌ as ◌then◌}
use Rattle.wh_model.specs.Format.{gives, one_of, this_byte, exact_byte, bytes, only_if, up_to, times, exactly, exactly_from, u32, vec, vec_up_to, of_func, of_global, value_type, mutability, imported_mutability, limits_flag, export_kind, import_kind, most_params, most_locals, most_instructions, expr, custom, section, valtype, functype, limits_by, limits, tabletype, globaltype, name, constant, importdesc_by, importdesc, global, export, element, byte_vector, segment, runs, locals, func, code, codes}
use Rattle.wh_model.specs.Format.Parts.{«import»}
use Rattle.wh_leb.specs.Reading.{◌>>=◌, ReadsBy, Reader, Anything, one_at, read_bytes_at, only_at, limited_at, times_at, exactly_at, exactly_from_at, u32_at, vec_at, vec_up_to_at}
use Rattle.wh_leb.proofs.Combinators.{reads_gives, reads_then, reads_one_of, reads_bytes, reads_only_if, reads_up_to, reads_times, reads_exactly, reads_exactly_from}
use Rattle.wh_leb.proofs.Integers.{reads_u32, reads_vec, reads_vec_up_to, reads_byte}
use Rattle.wh_expr.specs.ReadingCode.{code_at}
use Rattle.wh_expr.proofs.Expressions.{reads_expr}
use Rattle.wh_decode.specs.ReadingModule.{functype_at, limits_by_at, limits_at, tabletype_at, globaltype_at, name_at, constant_at, importdesc_by_at, importdesc_at, import_at, global_at, export_at, element_at, byte_vector_at, segment_at, runs_at, locals_at, func_at, body_at, bodies_at, custom_at, contents_at}

reads_valtype : ReadsBy Anything valtype (one_at value_type)
reads_valtype = reads_one_of value_type

pub reads_functype : ReadsBy Anything functype functype_at
unfolding functype_at
reads_functype =
    reads_then Anything (this_byte UnknownByte 0x60) (λ _. vec_up_to most_params valtype then λ ps. vec valtype then λ rs. gives (record { params = ps; results = rs })) _ (λ _ b at. vec_up_to_at most_params (one_at value_type) b at >>= λ ps. vec_at (one_at value_type) b ps.1 >>= λ rs. Ok (record { params = ps.0; results = rs.0 }, rs.1)) (reads_byte UnknownByte 0x60) (λ _.
    reads_then Anything (vec_up_to most_params valtype) (λ ps. vec valtype then λ rs. gives (record { params = ps; results = rs })) (vec_up_to_at most_params (one_at value_type)) (λ ps b at. vec_at (one_at value_type) b at >>= λ rs. Ok (record { params = ps; results = rs.0 }, rs.1)) (reads_vec_up_to most_params valtype (one_at value_type) reads_valtype) (λ ps.
    reads_then Anything (vec valtype) (λ rs. gives (record { params = ps; results = rs })) (vec_at (one_at value_type)) (λ rs b at. Ok (record { params = ps; results = rs }, at)) (reads_vec valtype (one_at value_type) reads_valtype) (λ rs.
    reads_gives (record { params = ps; results = rs }))))

reads_limits_by : (flag : Bool) → ReadsBy Anything (limits_by flag) (limits_by_at flag)
reads_limits_by false = reads_then Anything u32 (λ n. gives (record { min = n; max = None })) u32_at (λ n b at. Ok (record { min = n; max = None }, at)) reads_u32 (λ n. reads_gives (record { min = n; max = None }))
reads_limits_by true =
    reads_then Anything u32 (λ n. u32 then λ m. gives (record { min = n; max = Some m })) u32_at (λ n b at. u32_at b at >>= λ m. Ok (record { min = n; max = Some m.0 }, m.1)) reads_u32 (λ n.
    reads_then Anything u32 (λ m. gives (record { min = n; max = Some m })) u32_at (λ m b at. Ok (record { min = n; max = Some m }, at)) reads_u32 (λ m. reads_gives (record { min = n; max = Some m })))

pub reads_limits : ReadsBy Anything limits limits_at
unfolding limits_at
reads_limits = reads_then Anything (one_of limits_flag) limits_by (one_at limits_flag) limits_by_at (reads_one_of limits_flag) reads_limits_by

pub reads_tabletype : ReadsBy Anything tabletype tabletype_at
unfolding tabletype_at
reads_tabletype = reads_then Anything (this_byte UnknownByte 0x70) (λ _. limits) (one_at (exact_byte UnknownByte 0x70)) (λ _. limits_at) (reads_byte UnknownByte 0x70) (λ _. reads_limits)

reads_globaltype : ReadsBy Anything globaltype globaltype_at
unfolding globaltype_at
reads_globaltype =
    reads_then Anything valtype (λ t. one_of mutability then λ m. gives (record { value = t; mutability = m })) (one_at value_type) (λ t b at. one_at mutability b at >>= λ m. Ok (record { value = t; mutability = m.0 }, m.1)) reads_valtype (λ t.
    reads_then Anything (one_of mutability) (λ m. gives (record { value = t; mutability = m })) (one_at mutability) (λ m b at. Ok (record { value = t; mutability = m }, at)) (reads_one_of mutability) (λ m. reads_gives (record { value = t; mutability = m })))

reads_name : ReadsBy Anything name name_at
unfolding name_at
reads_name = reads_then Anything u32 (λ n. only_if IsUtf8 Utf8 (bytes n)) u32_at (λ n. only_at is_utf8 Utf8 (read_bytes_at n)) reads_u32 (λ n.
    reads_only_if IsUtf8 is_utf8 Utf8 (bytes n) (read_bytes_at n) (λ x. (IsUtf8-from_is_utf8 x, is_utf8-from_IsUtf8 x)) (reads_bytes n))

reads_constant : ReadsBy Anything constant constant_at
reads_constant = reads_expr None

reads_importdesc_by : (kind : Bool) → ReadsBy Anything (importdesc_by kind) (importdesc_by_at kind)
reads_importdesc_by true = reads_then Anything u32 (λ x. gives (of_func x)) u32_at (λ x b at. Ok (of_func x, at)) reads_u32 (λ x. reads_gives (of_func x))
reads_importdesc_by false =
    reads_then Anything valtype (λ t. one_of imported_mutability then λ _. gives (of_global t)) (one_at value_type) (λ t b at. one_at imported_mutability b at >>= λ m. Ok (of_global t, m.1)) reads_valtype (λ t.
    reads_then Anything (one_of imported_mutability) (λ _. gives (of_global t)) (one_at imported_mutability) (λ _ b at. Ok (of_global t, at)) (reads_one_of imported_mutability) (λ _. reads_gives (of_global t)))

reads_importdesc : ReadsBy Anything importdesc importdesc_at
unfolding importdesc_at
reads_importdesc = reads_then Anything (one_of import_kind) importdesc_by (one_at import_kind) importdesc_by_at (reads_one_of import_kind) reads_importdesc_by

pub reads_import : ReadsBy Anything «import» import_at
unfolding import_at
reads_import =
    reads_then Anything name (λ m. name then λ n. importdesc then λ d. gives (record { from = m; name = n; desc = d })) name_at (λ m b at. name_at b at >>= λ n. importdesc_at b n.1 >>= λ d. Ok (record { from = m; name = n.0; desc = d.0 }, d.1)) reads_name (λ m.
    reads_then Anything name (λ n. importdesc then λ d. gives (record { from = m; name = n; desc = d })) name_at (λ n b at. importdesc_at b at >>= λ d. Ok (record { from = m; name = n; desc = d.0 }, d.1)) reads_name (λ n.
    reads_then Anything importdesc (λ d. gives (record { from = m; name = n; desc = d })) importdesc_at (λ d b at. Ok (record { from = m; name = n; desc = d }, at)) reads_importdesc (λ d. reads_gives (record { from = m; name = n; desc = d }))))

pub reads_global : ReadsBy Anything global global_at
unfolding global_at
reads_global =
    reads_then Anything globaltype (λ t. constant then λ e. gives (record { type = t; init = e })) globaltype_at (λ t b at. constant_at b at >>= λ e. Ok (record { type = t; init = e.0 }, e.1)) reads_globaltype (λ t.
    reads_then Anything constant (λ e. gives (record { type = t; init = e })) constant_at (λ e b at. Ok (record { type = t; init = e }, at)) reads_constant (λ e. reads_gives (record { type = t; init = e })))

pub reads_export : ReadsBy Anything export export_at
unfolding export_at
reads_export =
    reads_then Anything name (λ n. one_of export_kind then λ k. u32 then λ x. gives (record { name = n; kind = k; index = x })) name_at (λ n b at. one_at export_kind b at >>= λ k. u32_at b k.1 >>= λ x. Ok (record { name = n; kind = k.0; index = x.0 }, x.1)) reads_name (λ n.
    reads_then Anything (one_of export_kind) (λ k. u32 then λ x. gives (record { name = n; kind = k; index = x })) (one_at export_kind) (λ k b at. u32_at b at >>= λ x. Ok (record { name = n; kind = k; index = x.0 }, x.1)) (reads_one_of export_kind) (λ k.
    reads_then Anything u32 (λ x. gives (record { name = n; kind = k; index = x })) u32_at (λ x b at. Ok (record { name = n; kind = k; index = x }, at)) reads_u32 (λ x. reads_gives (record { name = n; kind = k; index = x }))))

pub reads_element : ReadsBy Anything element element_at
unfolding element_at
reads_element =
    reads_then Anything u32 (λ x. constant then λ e. vec u32 then λ ys. gives (record { table = x; offset = e; init = ys })) u32_at (λ x b at. constant_at b at >>= λ e. vec_at u32_at b e.1 >>= λ ys. Ok (record { table = x; offset = e.0; init = ys.0 }, ys.1)) reads_u32 (λ x.
    reads_then Anything constant (λ e. vec u32 then λ ys. gives (record { table = x; offset = e; init = ys })) constant_at (λ e b at. vec_at u32_at b at >>= λ ys. Ok (record { table = x; offset = e; init = ys.0 }, ys.1)) reads_constant (λ e.
    reads_then Anything (vec u32) (λ ys. gives (record { table = x; offset = e; init = ys })) (vec_at u32_at) (λ ys b at. Ok (record { table = x; offset = e; init = ys }, at)) (reads_vec u32 u32_at reads_u32) (λ ys. reads_gives (record { table = x; offset = e; init = ys }))))

reads_byte_vector : ReadsBy Anything byte_vector byte_vector_at
unfolding byte_vector_at
reads_byte_vector = reads_then Anything u32 bytes u32_at read_bytes_at reads_u32 reads_bytes

pub reads_segment : ReadsBy Anything segment segment_at
unfolding segment_at
reads_segment =
    reads_then Anything u32 (λ x. constant then λ e. byte_vector then λ bs. gives (record { memory = x; offset = e; init = bs })) u32_at (λ x b at. constant_at b at >>= λ e. byte_vector_at b e.1 >>= λ bs. Ok (record { memory = x; offset = e.0; init = bs.0 }, bs.1)) reads_u32 (λ x.
    reads_then Anything constant (λ e. byte_vector then λ bs. gives (record { memory = x; offset = e; init = bs })) constant_at (λ e b at. byte_vector_at b at >>= λ bs. Ok (record { memory = x; offset = e; init = bs.0 }, bs.1)) reads_constant (λ e.
    reads_then Anything byte_vector (λ bs. gives (record { memory = x; offset = e; init = bs })) byte_vector_at (λ bs b at. Ok (record { memory = x; offset = e; init = bs }, at)) reads_byte_vector (λ bs. reads_gives (record { memory = x; offset = e; init = bs }))))

reads_runs : (k declared : ℕ) → ReadsBy Anything (runs k declared) (runs_at k declared)
unfolding runs_at
reads_runs zero declared = reads_gives []
reads_runs (suc k) declared =
    reads_then Anything (up_to (most_locals - declared) u32) (λ n. valtype then λ t. runs k (declared + n) then λ rest. gives (replicate n t ++ rest)) (limited_at (most_locals - declared) u32_at) (λ n b at. one_at value_type b at >>= λ t. runs_at k (declared + n) b t.1 >>= λ rest. Ok (replicate n t.0 ++ rest.0, rest.1)) (reads_up_to (most_locals - declared) u32 u32_at reads_u32) (λ n.
    reads_then Anything valtype (λ t. runs k (declared + n) then λ rest. gives (replicate n t ++ rest)) (one_at value_type) (λ t b at. runs_at k (declared + n) b at >>= λ rest. Ok (replicate n t ++ rest.0, rest.1)) reads_valtype (λ t.
    reads_then Anything (runs k (declared + n)) (λ rest. gives (replicate n t ++ rest)) (runs_at k (declared + n)) (λ rest b at. Ok (replicate n t ++ rest, at)) (reads_runs k (declared + n)) (λ rest.
    reads_gives (replicate n t ++ rest))))

reads_locals : ReadsBy Anything locals locals_at
unfolding locals_at
reads_locals = reads_then Anything u32 (λ k. runs k 0) u32_at (λ k. runs_at k 0) reads_u32 (λ k. reads_runs k 0)

reads_func : ReadsBy Anything func func_at
unfolding func_at
reads_func =
    reads_then Anything locals (λ ls. expr (Some most_instructions) then λ c. gives (record { locals = ls; code = c })) locals_at (λ ls b at. code_at (Some most_instructions) b at >>= λ c. Ok (record { locals = ls; code = c.0 }, c.1)) reads_locals (λ ls.
    reads_then Anything (expr (Some most_instructions)) (λ c. gives (record { locals = ls; code = c })) (code_at (Some most_instructions)) (λ c b at. Ok (record { locals = ls; code = c }, at)) (reads_expr (Some most_instructions)) (λ c.
    reads_gives (record { locals = ls; code = c })))

pub reads_code : ReadsBy Anything code body_at
unfolding body_at
reads_code = reads_then Anything u32 (λ size. exactly size func) u32_at (λ size. exactly_at size func_at) reads_u32 (λ size. reads_exactly size func func_at reads_func)

pub decides_eq : (n k : ℕ) → Decides (eqb k n) (k ≡ n)
decides_eq n k = (eqb-true k n, eq-eqb k n)

pub reads_codes : (n : ℕ) → ReadsBy Anything (codes n) (bodies_at n)
unfolding bodies_at
reads_codes n = reads_then Anything (only_if (λ k. k ≡ n) CountMismatch u32) (λ k. times k code) (only_at (λ k. eqb k n) CountMismatch u32_at) (λ k. times_at k body_at)
    (reads_only_if (λ k. k ≡ n) (λ k. eqb k n) CountMismatch u32 u32_at (decides_eq n) reads_u32) (λ k. reads_times k code body_at reads_code)

pub reads_custom : ReadsBy Anything custom custom_at
unfolding custom_at
reads_custom =
    reads_then Anything (this_byte UnknownByte 0) (λ _. u32 then λ size. exactly_from size name) (one_at (exact_byte UnknownByte 0)) (λ _ b at. u32_at b at >>= λ size. exactly_from_at size.0 name_at b size.1) (reads_byte UnknownByte 0) (λ _.
    reads_then Anything u32 (λ size. exactly_from size name) u32_at (λ size. exactly_from_at size name_at) reads_u32 (λ size.
    reads_exactly_from size name name_at reads_name))

pub reads_contents : {A : Type 0} (id : ℕ) (g : Grammar A) (read : Reader A) → ReadsBy Anything g read → ReadsBy Anything (section id g) (contents_at id read)
reads_contents id g read r =
    reads_then Anything (this_byte UnknownByte id) (λ _. u32 then λ size. exactly size g) (one_at (exact_byte UnknownByte id)) (λ _ b at. u32_at b at >>= λ size. exactly_at size.0 read b size.1) (reads_byte UnknownByte id) (λ _.
    reads_then Anything u32 (λ size. exactly size g) u32_at (λ size. exactly_at size read) reads_u32 (λ size.
    reads_exactly size g read r))
