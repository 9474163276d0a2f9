-- Replies that name out of memory.
use Rattle.std.specs.Prelude.{◌≡◌, List}
use Rattle.std.specs.List.{AllByRecursion}
use Rattle.wh_script_model.specs.Texts.{Refusal, broken, invalid, no_link_memory, no_room, refused, Reply, error, module_refused, admit_refused, call_is}

-- D13, V11, L3 and M2
abbrev pub NamesOutOfMemory : Refusal → Type 0
NamesOutOfMemory (broken kind offset) = kind ≡ 13
NamesOutOfMemory (invalid kind place) = kind ≡ 11
NamesOutOfMemory no_link_memory = Unit {0}
NamesOutOfMemory no_room = Unit {0}
NamesOutOfMemory other = ⊥

-- C5, those of modules, A9 and H7
abbrev pub IsOutOfMemory : Reply → Type 0
IsOutOfMemory (error cause line) = cause ≡ 5
IsOutOfMemory (module_refused name why) = NamesOutOfMemory why
IsOutOfMemory (admit_refused inst fault) = fault ≡ 9
IsOutOfMemory (call_is who (refused fault)) = fault ≡ 7
IsOutOfMemory other = ⊥

-- none of the replies does
abbrev pub NoneIsOutOfMemory : List Reply → Type 0
NoneIsOutOfMemory = AllByRecursion (λ reply. ¬ (IsOutOfMemory reply))
