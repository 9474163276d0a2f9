-- What the parts of a frame pool represent.
use Rattle.std.specs.Prelude.{ℕ, ◌≡◌, ◌+◌, ◌-◌, ◌^◌, ◌<◌, ◌≤◌, ◌++◌, List, [], ◌∷◌, length, replicate, zero, suc}
use Rattle.std.specs.Vec.{vec_capacity}
use Rattle.wh_space_model.specs.Frames.{Pool, tally, one_if}
use Rattle.wh_space_model.specs.Pages.{zero_page}
use Rattle.wh_frames.specs.declared.pool.FramePool.TheInside.{Inside}

-- n numbers from the first on, the greatest first
abbrev pub falling : ℕ → ℕ → List ℕ
falling first zero = []
falling first (suc count) = (first + count) ∷ falling first count

-- the frames that no one has taken yet hold zeros and are free; then come the free ones that were given back
abbrev pub pool_of : Inside → Pool
pool_of a =
    let unused = a.limit - length a.frames.items in
    record {
      frames = a.frames.items ++ replicate unused zero_page;
      free = falling (length a.frames.items) unused ++ a.free.items;
    }

-- of the frames that were taken, which are the first k, these were given back: none of them twice
pub record GivenBack (k : ℕ) (back : List ℕ) : Type 0 where
  pub once : (f : ℕ) → tally (one_if f) back ≤ 1
  pub used : (f : ℕ) → k ≤ f → tally (one_if f) back ≡ 0

-- there is room for each frame, and for the number of each
pub record HasRoom (a : Inside) : Type 0 where
  pub frames_room : a.limit ≤ vec_capacity a.frames
  pub free_room : a.limit ≤ vec_capacity a.free
  pub few : a.limit < 2 ^ 32
  pub within : length a.frames.items ≤ a.limit
  pub given : GivenBack (length a.frames.items) a.free.items
