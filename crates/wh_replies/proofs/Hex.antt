-- Bytes in hexadecimal, as the kit's crate writes them.
use Rattle.std.proofs.Common.{◌≡◌, ℕ, zero, suc, ◌<◌, ◌/◌, ◌%◌, List, [], ◌∷◌, get_or, refl, ◌∙◌, Result, Ok, Err, IfOk, arith}
use Rattle.hex.specs.Hex.{lower_digits, encode_with, encode_lower}
use Rattle.wh_script_model.specs.{low_digit, hex_text}

digit : (n : ℕ) → n < 16 → get_or lower_digits n 0 ≡ low_digit n
digit zero h = refl
digit (suc zero) h = refl
digit (suc (suc zero)) h = refl
digit (suc (suc (suc zero))) h = refl
digit (suc (suc (suc (suc zero)))) h = refl
digit (suc (suc (suc (suc (suc zero))))) h = refl
digit (suc (suc (suc (suc (suc (suc zero)))))) h = refl
digit (suc (suc (suc (suc (suc (suc (suc zero))))))) h = refl
digit (suc (suc (suc (suc (suc (suc (suc (suc zero)))))))) h = refl
digit (suc (suc (suc (suc (suc (suc (suc (suc (suc zero))))))))) h = refl
digit (suc (suc (suc (suc (suc (suc (suc (suc (suc (suc zero)))))))))) h = refl
digit (suc (suc (suc (suc (suc (suc (suc (suc (suc (suc (suc zero))))))))))) h = refl
digit (suc (suc (suc (suc (suc (suc (suc (suc (suc (suc (suc (suc zero)))))))))))) h = refl
digit (suc (suc (suc (suc (suc (suc (suc (suc (suc (suc (suc (suc (suc zero))))))))))))) h = refl
digit (suc (suc (suc (suc (suc (suc (suc (suc (suc (suc (suc (suc (suc (suc zero)))))))))))))) h = refl
digit (suc (suc (suc (suc (suc (suc (suc (suc (suc (suc (suc (suc (suc (suc (suc zero))))))))))))))) h = refl
digit (suc (suc (suc (suc (suc (suc (suc (suc (suc (suc (suc (suc (suc (suc (suc (suc n)))))))))))))))) h = absurd (omega arith)

encoded : (bytes : List ℕ) → ((i : ℕ) → get_or bytes i 0 < 256) → encode_with lower_digits bytes ≡ hex_text bytes
unfolding encode_with
encoded [] h = refl
encoded (b ∷ bytes) h =
    let small : b < 256 = h zero in
    rw (digit (b / 16) (omega arith), digit (b % 16) (omega arith), encoded bytes (λ i. h (suc i))) refl

pub encoded_so : (bytes text : List ℕ) → ((i : ℕ) → get_or bytes i 0 < 256) → text ≡ encode_lower bytes → text ≡ hex_text bytes
encoded_so bytes text h e = e ∙ encoded bytes h

pub weaker : {A E : Type 0} (P Q : A → Type 0) (r : Result A E) → ((x : A) → P x → Q x) → IfOk r P → IfOk r Q
weaker P Q (Ok x) h p = h x p
weaker P Q (Err e) h p = tt
