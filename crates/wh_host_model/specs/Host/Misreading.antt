-- What may befall a host whose swap device gives other bytes than were written to it. That it doesn't is a premise of
-- what instances compute, and not of what keeps a host sound.
use Rattle.std.specs.Prelude.{◌≡◌, ◌≤◌, ℕ, List, [], ◌∷◌, length, Some}
use Rattle.wh_model.specs.declared.memory.Need.{Need}
use Rattle.wh_model.specs.Linking.Accepting.{IsAccepted}
use Rattle.wh_space_model.specs.declared.Tax.{Tax}
use Rattle.wh_space_model.specs.Parts.{Space, view, claim, wants}
use Rattle.wh_space_model.specs.Sound.{IsSound}
use Rattle.wh_host_model.specs.Host.Spaces.{KeepsPromise}
use Rattle.wh_host_model.specs.Host.Worlds.{for_frame, Loaded, World, empty_world, loaded_of}
use Rattle.wh_host_model.specs.Host.Events.{Event}
use Rattle.wh_host_model.specs.Host.Happens.{Happens}
use Rattle.wh_host_model.specs.Host.Laws.{EachHas, HasJournal, PlacesAreTenants}

-- The instance at a place sees as many bytes as it saw, which may be others; it stands where it stood, and has what it
-- was promised. One that was released keeps its promise.
pub record SeesAsMany (i : ℕ) (s s2 : Space) : Type 0 where
  pub many : length (view s2 i) ≡ length (view s i)
  pub wants : wants s2 i ≡ wants s i
  pub claim : claim s2 i ≡ claim s i
  pub promise : KeepsPromise i s s2

-- all of them do, and the memory is sound
abbrev pub AllSeeAsMany : Space → Space → Type 0
AllSeeAsMany s s2 = ((j : ℕ) → SeesAsMany j s s2) × IsSound s2

-- Pages have moved, and the device gave other bytes: every journal, configuration and store stays, but for the bytes of
-- memories.
abbrev pub IsMisread : World → World → Type 0
IsMisread w w2 = (s2 : Space) × AllSeeAsMany w.space s2 × (w2 ≡ record w { space = s2 })

-- one event, or one such read
pub data Step : Type 0 where
  by_event : Event → Step
  by_misreading : Step

abbrev pub Befalls : World → Step → World → Type 0
Befalls w (by_event e) w2 = Happens w e w2
Befalls w by_misreading w2 = IsMisread w w2

-- one after another
abbrev pub AllBefall : World → List Step → World → Type 0
AllBefall w [] w2 = w2 ≡ w
AllBefall w (x ∷ xs) w2 = (mid : World) × Befalls w x mid × AllBefall mid xs w2

-- events and such reads lead from an empty host to this one
pub record ComesAbout (w : World) : Type 0 where
  pub frames : ℕ
  pub slots : ℕ
  pub tax : Tax
  pub steps : List Step
  pub befall : AllBefall (empty_world frames slots tax) steps w

-- ---- what holds of every host, whatever its device gives

abbrev pub HoldsAnyhow : (World → Type 0) → Type 0
HoldsAnyhow P = (w : World) → ComesAbout w → P w

abbrev pub MemoryStaysSound : Type 0
MemoryStaysSound = HoldsAnyhow (λ w. IsSound w.space)

abbrev pub PlacesStayRight : Type 0
PlacesStayRight = HoldsAnyhow PlacesAreTenants

abbrev pub ModulesStayAccepted : Type 0
ModulesStayAccepted =
    HoldsAnyhow (λ w. (k : ℕ) (l : Loaded) → loaded_of w k ≡ Some l → IsAccepted l.bytes l.m)

abbrev pub JournalsStayInOrder : Type 0
JournalsStayInOrder = HoldsAnyhow (EachHas HasJournal)

-- the calls that were copied with an instance have ended
abbrev pub CopiedStayEnded : Type 0
CopiedStayEnded = HoldsAnyhow (EachHas (λ w t. t.copied ≤ length t.ended))

-- the input of an instance is what its owner gave it
abbrev pub InputsStay : Type 0
InputsStay = HoldsAnyhow (EachHas (λ w t. t.rest.inputs ≡ t.params.inputs))

-- who waits for a frame is blocked on some bytes
abbrev pub FramesAreAwaited : Type 0
FramesAreAwaited =
    HoldsAnyhow (EachHas (λ w t. t.waiting_for ≡ Some for_frame → (need : Need) × (wants w.space t.place ≡ Some need)))
