-- Texts of replies, one behind the other.
use Rattle.std.proofs.Common.{◌≡◌, ◌∙◌, ℕ, List, [], ◌∷◌, ◌++◌, refl, sym, ap, append-nil, append_assoc}
use Rattle.wh_script_model.specs.{Reply, reply_text, replies_text}
use Rattle.wh_engine.specs.Printing.{AddsLines}

pub texts_on : (a b : List Reply) → replies_text (a ++ b) ≡ replies_text a ++ replies_text b
texts_on [] b = refl
texts_on (r ∷ a) b = ap (λ xs. reply_text r ++ xs) (texts_on a b) ∙ sym (append_assoc (reply_text r) (replies_text a) (replies_text b))

pub adds_none : (text : List ℕ) → AddsLines [] text text
adds_none text = sym (append-nil text)

pub adds_one : (r : Reply) (text text2 : List ℕ) → text2 ≡ text ++ reply_text r → AddsLines (r ∷ []) text text2
adds_one r text text2 is = is ∙ ap (λ xs. text ++ xs) (sym (append-nil (reply_text r)))

pub adds_more : (a b : List Reply) (text mid text2 : List ℕ) → AddsLines a text mid → AddsLines b mid text2 → AddsLines (a ++ b) text text2
adds_more a b text mid text2 p q =
    q ∙ ap (λ xs. xs ++ replies_text b) p ∙ append_assoc text (replies_text a) (replies_text b) ∙ ap (λ xs. text ++ xs) (sym (texts_on a b))
