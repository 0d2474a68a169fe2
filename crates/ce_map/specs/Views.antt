-- What a view of an item shows: `Shows` an item of a version, whose numbers all calls above speak of.
use Rattle.std.specs.Prelude.{◌≡◌, ℕ}
use Rattle.ce_map.specs.Grammar.{Item, item_text, base_of}
use Rattle.ce_map.specs.Lists.{IsListOf}
use Rattle.ce_map.specs.declared.record_view.RecordView.{RecordView}

-- A view shows an item of a version: its text, its numbers, and its lists with all numbers left.
pub record Shows (version : ℕ) (item : Item) (view : RecordView) : Type 0 where
  pub text : view.text.now ≡ item_text version item
  pub num : view.num ≡ item.angle.num
  pub den : view.den ≡ item.angle.den
  pub low : view.low ≡ item.evidence.low
  pub high : view.high ≡ item.evidence.high
  pub low_rank : view.low_rank ≡ item.evidence.low_rank
  pub ranks : IsListOf 10 item.evidence.ranks view.ranks
  pub low_vector : IsListOf (base_of version) item.evidence.low_vector view.low_vector
  pub high_vector : IsListOf (base_of version) item.evidence.high_vector view.high_vector

-- A view shows some item.
pub record IsShown (view : RecordView) : Type 0 where
  pub version : ℕ
  pub item : Item
  pub shows : Shows version item view
