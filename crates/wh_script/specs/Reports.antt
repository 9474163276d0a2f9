-- What a report shows of the instances of a script.
use Rattle.std.specs.Prelude.{◌≡◌, ℕ, ◌+◌, true, false, List, [], ◌∷◌, ◌++◌}
use Rattle.wh_script_model.specs.Settings.{Settings}
use Rattle.wh_script_model.specs.Texts.{Row, frames_text, row_text, shared_text, slots_text}
use Rattle.wh_script_model.specs.ScriptState.{NamedInstance, ScriptState}

-- The row of an instance says what it was given, and the tax is that of the settings. How many frames are charged to it,
-- how many of these are active and how many of its pages are swapped depends on the order of turns.
pub record IsRowOf (settings : Settings) (number : ℕ) (g : NamedInstance) (row : Row) : Type 0 where
  pub number_is : row.number ≡ number
  pub shares : row.shares ≡ g.params.shares
  pub min : row.min ≡ g.params.min
  pub max : row.max ≡ g.params.max
  pub num : row.num ≡ settings.num
  pub den : row.den ≡ settings.den

-- one for each instance that isn't released, by number, the first of the list having this one
pub data AreRowsOf (settings : Settings) : (number : ℕ) → List NamedInstance → List Row → Type 0 where
  no_rows : {number : ℕ} → AreRowsOf settings number [] []
  row_left_out : {number : ℕ} {g : NamedInstance} {gs : List NamedInstance} {rows : List Row} → g.is_released ≡ true
      → AreRowsOf settings (number + 1) gs rows → AreRowsOf settings number (g ∷ gs) rows
  row_shown : {number : ℕ} {g : NamedInstance} {gs : List NamedInstance} {row : Row} {rows : List Row} → g.is_released ≡ false
      → IsRowOf settings number g row → AreRowsOf settings (number + 1) gs rows
      → AreRowsOf settings number (g ∷ gs) (row ∷ rows)

abbrev pub row_texts : List Row → List ℕ
row_texts [] = []
row_texts (row ∷ rows) = row_text row ++ row_texts rows

-- a report: as many frames and slots as the settings say, and those rows
pub record IsReportOf (settings : Settings) (m : ScriptState) (report : List ℕ) : Type 0 where
  pub used : ℕ
  pub taken : ℕ
  pub shared : ℕ
  pub sharing : ℕ
  pub rows : List Row
  pub are_rows : AreRowsOf settings 0 m.instances rows
  pub is : report ≡ frames_text settings.frames used ++ slots_text settings.slots taken ++ shared_text shared sharing
      ++ row_texts rows
