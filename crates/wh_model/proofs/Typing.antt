-- Typing composes, and instructions may stand over further operands (3.3.6 of the standard).
use Rattle.std.proofs.Common.{◌≡◌, List, ◌++◌, sym, subst, append_assoc}
use Rattle.wh_model.specs.declared.ValType.{ValType}
use Rattle.wh_model.specs.Format.{Code, nothing, plain, block, loop, if_then, if_else, join}
use Rattle.wh_model.specs.Validity.{Context, operand, HasType, no_more, then_op, then_block, then_loop, then_if, then_if_else}

-- a sequence, and behind it another one that takes what the first leaves
pub composed : {c : Context} {s t : Code} {a b d : List ValType} → HasType c s a b → HasType c t b d → HasType c (join s t) a d
composed no_more q = q
composed (then_op a b below h p) q = then_op a b below h (composed p q)
composed (then_block p r) q = then_block p (composed r q)
composed (then_loop p r) q = then_loop p (composed r q)
composed (then_if p n r) q = then_if p n (composed r q)
composed (then_if_else p n r) q = then_if_else p n (composed r q)

-- the same over further operands
over : {c : Context} {s : Code} {x y z : List ValType} → HasType c s x z → x ≡ y → HasType c s y z
over {c} {s} {x} {y} {z} h e = subst (λ (v : List ValType). HasType c s v z) e h

pub framed : {c : Context} {s : Code} {a b : List ValType} (more : List ValType) → HasType c s a b → HasType c s (a ++ more) (b ++ more)
framed more no_more = no_more
framed more (then_op a b below h p) = over (then_op a b (below ++ more) h (over (framed more p) (append_assoc b below more))) (sym (append_assoc a below more))
framed more (then_block {t = t} {below = below} p r) = then_block p (over (framed more r) (append_assoc (operand t) below more))
framed more (then_loop {t = t} {below = below} p r) = then_loop p (over (framed more r) (append_assoc (operand t) below more))
framed more (then_if {t = t} {below = below} p n r) = then_if p n (over (framed more r) (append_assoc (operand t) below more))
framed more (then_if_else {t = t} {below = below} p n r) = then_if_else p n (over (framed more r) (append_assoc (operand t) below more))

-- Two sequences one behind the other have a type between them. With `composed` and `framed` this is the standard's rule:
-- a sequence is empty, or a sequence followed by one that stands over operands which it leaves alone.
pub parted : {c : Context} (s t : Code) {a d : List ValType} → HasType c (join s t) a d → (b : List ValType) × HasType c s a b × HasType c t b d
parted nothing t {a} h = (a, no_more, h)
parted (plain op rest) t (then_op a b below h p) = let q = parted rest t p in (q.0, then_op a b below h q.1, q.2)
parted (block k body rest) t (then_block p r) = let q = parted rest t r in (q.0, then_block p q.1, q.2)
parted (loop k body rest) t (then_loop p r) = let q = parted rest t r in (q.0, then_loop p q.1, q.2)
parted (if_then k first rest) t (then_if p n r) = let q = parted rest t r in (q.0, then_if p n q.1, q.2)
parted (if_else k first second rest) t (then_if_else p n r) = let q = parted rest t r in (q.0, then_if_else p n q.1, q.2)
