-- The edges between different components (AreEdges), how many of each component's lead to components
-- without numbers, and which components have none (IsSettling). Source: [Kahn1962], for the counts.
use Rattle.std.specs.Prelude.{◌≡◌, ◌≢◌, ◌⊎◌, ◌*◌, ◌<◌, ◌≤◌, ◌++◌, ◌∷◌, [], ℕ, zero, suc, List, length, All, AllPairs}
use Rattle.std.specs.Prelude.{Contains, slice_index}
use Rattle.ce_rows.specs.Rows.{successors_in}
use Rattle.ce_rows.specs.declared.row.Row.{Row}
use Rattle.ce_comp.specs.NumbersInside.{Condensation}
use Rattle.ce_comp.specs.declared.order.Progress.{Progress}

-- An edge leads from the component c to another one, d.
pub record IsEdge (list : List Row) (of_vertex : List ℕ) (c d : ℕ) : Type 0 where
  pub source : ℕ
  pub target : ℕ
  pub within : source < length list
  pub edge : Contains (successors_in list source) target
  pub of_source : slice_index of_vertex source ≡ c
  pub of_target : slice_index of_vertex target ≡ d
  pub apart : c ≢ d

-- One component, or an edge from c to d is in the list.
abbrev pub IsListed : List ℕ → List ℕ → ℕ → ℕ → Type 0
IsListed sources targets c d =
    (c ≡ d) ⊎ ((k : ℕ) × (k < length sources) × (slice_index sources k ≡ c) × (slice_index targets k ≡ d))

-- These are the edges between different components of the vertices below upto.
pub record AreEdges (list : List Row) (of_vertex sources targets : List ℕ) (upto : ℕ) : Type 0 where
  pub each : length targets ≡ length sources
  pub few : length sources ≤ 2 * upto
  pub are : (k : ℕ) → k < length sources
      → IsEdge list of_vertex (slice_index sources k) (slice_index targets k)
  pub all : (x : ℕ) → x < upto → All (λ y. IsListed sources targets (slice_index of_vertex x) (slice_index of_vertex y))
      (successors_in list x)

-- One more edge, from c to d, unless these are one component.
abbrev pub IsAdded : List ℕ → List ℕ → List ℕ → List ℕ → ℕ → ℕ → Type 0
IsAdded sources targets more_sources more_targets c d =
    ((c ≡ d) × (more_sources ≡ sources) × (more_targets ≡ targets))
    ⊎ ((c ≢ d) × (more_sources ≡ sources ++ c ∷ []) × (more_targets ≡ targets ++ d ∷ []))

-- Of the numbers below m there are n with a property.
abbrev pub IsCount : (ℕ → Type 0) → ℕ → ℕ → Type 0
IsCount P zero n = n ≡ 0
IsCount P (suc m) n = ((P m → ⊥) × IsCount P m n) ⊎ (P m × (k : ℕ) × (n ≡ suc k) × IsCount P m k)

-- the fields of a progress
pub record Standing : Type 0 where
  pub numbers : List ℕ
  pub left : List ℕ
  pub ready : List ℕ

-- The vertex v is the first one of a component below upto that has no number and waits for none.
pub record IsReadyVertex (first numbers left : List ℕ) (upto v : ℕ) : Type 0 where
  pub component : ℕ
  pub within : component < upto
  pub is_first : slice_index first component ≡ v
  pub open_yet : length first ≤ slice_index numbers component
  pub none : slice_index left component ≡ 0

-- Different components have different first vertices.
abbrev pub AreFirstsApart : List ℕ → Type 0
AreFirstsApart first = (c d : ℕ) → c < length first → d < length first → slice_index first c ≡ slice_index first d
    → c ≡ d

-- The queue has the first vertices of all such components, each once.
pub record AreReady (first numbers left ready : List ℕ) (upto : ℕ) : Type 0 where
  pub firsts_apart : AreFirstsApart first
  pub are : All (IsReadyVertex first numbers left upto) ready
  pub once : AllPairs (λ v w. v ≢ w) ready
  pub all : (c : ℕ) → c < upto → length first ≤ slice_index numbers c → slice_index left c ≡ 0
      → Contains ready (slice_index first c)

-- The same, but for the component x, which is not in it.
pub record AreReadyBut (first numbers left ready : List ℕ) (upto x : ℕ) : Type 0 where
  pub firsts_apart : AreFirstsApart first
  pub are : All (IsReadyVertex first numbers left upto) ready
  pub once : AllPairs (λ v w. v ≢ w) ready
  pub not_in : All (λ v. slice_index first x ≢ v) ready
  pub all : (c : ℕ) → c < upto → c ≢ x → length first ≤ slice_index numbers c → slice_index left c ≡ 0
      → Contains ready (slice_index first c)

-- It is counted how many edges of each component are among those that hold it back.
pub record IsSettling (first sources : List ℕ) (IsHeld : ℕ → Type 0) (s : Standing) : Type 0 where
  pub numbers_each : length s.numbers ≡ length first
  pub left_each : length s.left ≡ length first
  pub counts : (c : ℕ) → c < length first
      → IsCount (λ k. (slice_index sources k ≡ c) × IsHeld k) (length sources) (slice_index s.left c)
  pub done : (c : ℕ) → c < length first → slice_index s.numbers c < length first → slice_index s.left c ≡ 0
  pub ready : AreReady first s.numbers s.left s.ready (length first)

-- An edge holds back while its target has no number,
abbrev pub IsHolding : List ℕ → List ℕ → List ℕ → ℕ → Type 0
IsHolding first targets numbers k = length first ≤ slice_index numbers (slice_index targets k)

-- and when the component d has got one, those into it from the edge e on are not settled yet.
abbrev pub IsHoldingFrom : List ℕ → List ℕ → List ℕ → ℕ → ℕ → ℕ → Type 0
IsHoldingFrom first targets numbers d e k =
    (length first ≤ slice_index numbers (slice_index targets k)) ⊎ ((slice_index targets k ≡ d) × (e ≤ k))

-- what the code's structs stand for
abbrev pub condensation : List Row → List ℕ → List ℕ → Condensation
condensation list of_vertex first =
    record { list = list; of_vertex = of_vertex; count = length first; first = first }

abbrev pub standing : Progress → Standing
standing p = record { numbers = p.numbers.items; left = p.left.items; ready = p.ready }
