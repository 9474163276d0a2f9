-- What a line asks for, by its first word and by what the words behind it were found to be.
use Rattle.std.proofs.Common.{◌≡◌, ℕ, List, [], ◌∷◌, ◌⊎◌, inl, inr, Result, Ok, Err, IfOk, IfErr, OnErr, refl, sym, ◌∙◌}
use Rattle.std.specs.Prelude.{codes}
use Rattle.wh_script_model.specs.{IsName, verb, Follow, admit}
use Rattle.wh_host_model.specs.{Params}
use Rattle.wh_script_model.specs.Commands as lines
use Rattle.wh_commands.specs.declared.command.Command.{Command}
use Rattle.wh_commands.specs.declared.error.ParseError.{ParseError}
use Rattle.wh_commands.specs.declared.error.ParseError.TheVariants.{Syntax, Memory}
use Rattle.wh_commands.specs.WordsLeft.{IsHexWord}
use Rattle.wh_commands.specs.ParsedCommands.{Finds, IsAskedBy, Refuses, command_of}
use Rattle.wh_commands.proofs.OneCommand.{by_keep, by_admit, one_follows}

-- the words behind the first one ask for nothing
abbrev pub AsksNone : List ℕ → List (List ℕ) → Type 0
AsksNone first words = (d : lines.Command) → verb d ≡ first → Follow d words → ⊥

pub only_by : (first word : List ℕ) (words : List (List ℕ)) (r : Result Command ParseError) → word ≡ first
    → IfOk r (λ c. IsAskedBy first words (command_of c)) → IfErr r (λ e. (e ≡ Memory) ⊎ AsksNone first words)
    → IfErr r (λ e. (e ≡ Syntax) ⊎ (e ≡ Memory)) → (asked : lines.Command) → IsAskedBy word words asked → Finds command_of r asked
only_by first word words (Ok c) f h none err asked a = one_follows words (command_of c) asked h.1 (a.0 ∙ (f ∙ sym h.0)) a.1
only_by first word words (Err Memory) f h none err asked a = tt
only_by first word words (Err Syntax) f h (inl m) err asked a = absurd (cc)
only_by first word words (Err Syntax) f h (inr none) err asked a = none asked (a.0 ∙ f) a.1

-- ---- errors

pub by_refusal : (P : Type 0) (r : Result Command ParseError) → IfErr r (Refuses P) → IfErr r (λ e. (e ≡ Syntax) ⊎ (e ≡ Memory))
by_refusal P (Ok c) h = tt
by_refusal P (Err Syntax) h = inl refl
by_refusal P (Err Memory) h = inr refl

pub none_by : (N : Type 0) (first : List ℕ) (words : List (List ℕ)) (r : Result Command ParseError) → (N → AsksNone first words) → OnErr r N
    → IfErr r (λ e. (e ≡ Memory) ⊎ AsksNone first words)
none_by N first words (Ok c) h n = tt
none_by N first words (Err e) h n = inr (h n)

pub none_refused : (P : Type 0) (first : List ℕ) (words : List (List ℕ)) (r : Result Command ParseError)
    → ((d : lines.Command) → verb d ≡ first → Follow d words → P) → IfErr r (Refuses P)
    → IfErr r (λ e. (e ≡ Memory) ⊎ AsksNone first words)
none_refused P first words (Ok c) h n = tt
none_refused P first words (Err Syntax) h n = inr (λ d e f. n (h d e f))
none_refused P first words (Err Memory) h n = inl refl

-- ---- by the verb

pub is_keep : (words : List (List ℕ)) (d : lines.Command) → verb d ≡ codes "module" → Follow d words
    → (n hex : List ℕ) × IsName n × IsHexWord hex × (words ≡ n ∷ hex ∷ [])
is_keep words d e f = by_keep words (λ d. (n hex : List ℕ) × IsName n × IsHexWord hex × (words ≡ n ∷ hex ∷ []))
    (λ n b g. (n, g.0, g.2, (g.3, (b, g.4)), g.1)) d e f

pub is_admit : (words : List (List ℕ)) (d : lines.Command) → verb d ≡ codes "admit" → Follow d words
    → (inst of : List ℕ) × (params : Params) × Follow (admit inst of params) words
is_admit words d e f = by_admit words (λ d. (inst of : List ℕ) × (params : Params) × Follow (admit inst of params) words)
    (λ i o p g. (i, o, p, g)) d e f
