-- The walk under List (document 01, "Ways out and clashes"): its nodes, what it knows at each, and what it leaves in its places.
use Rattle.std.specs.Prelude.{◌≡◌, refl, List, [], ◌∷◌, ℕ, suc, ◌+◌, ◌*◌, ◌^◌, ◌≤◌, ◌<◌, min, length, Option, Some, None}
use Rattle.sets.specs.Sets.{Joins, only}
use Rattle.sets.specs.Lists.{Exactly}
use Rattle.setups.specs.Limits.{settings_most}
use Rattle.setups.specs.Setups.{Setup, count, WayOut}
use Rattle.question.specs.Question.{Meets, Shows}
use Rattle.walk.specs.declared.Node.{Node}
use Rattle.walk.specs.declared.Live.{Live}

-- ---- nodes

-- The settings from place `left` up, of n, are decided: those of `given` are given up, those of `kept` kept, each is one of the two.
pub record AboveDecided (n left given kept : ℕ) : Type 0 where
  pub above : ℕ
  pub high_given : ℕ
  pub high_kept : ℕ
  pub all : n ≡ left + above
  pub gives : given ≡ high_given * 2 ^ left
  pub keeps : kept ≡ high_kept * 2 ^ left
  pub whole : high_given + high_kept + 1 ≡ 2 ^ above

-- of four settings the third is given up and the fourth is kept
example_decided : AboveDecided 4 2 4 8
example_decided = record { above = 2; high_given = 1; high_kept = 2; all = refl; gives = refl; keeps = refl; whole = refl }

-- `next` is the node below `node`, where the highest setting left is kept
pub record KeepsHighest (node next : Node) : Type 0 where
  pub left : suc next.left ≡ node.left
  pub given : next.given ≡ node.given
  pub kept : Joins node.kept (only settings_most node.left) next.kept

-- `next` is the node below `node`, where it is given up
pub record GivesUpHighest (node next : Node) : Type 0 where
  pub left : suc next.left ≡ node.left
  pub given : Joins node.given (only settings_most node.left) next.given
  pub kept : next.kept ≡ node.kept

-- ---- what the walk knows at a node

-- exactly the ways out below `top`, rising
abbrev pub Below : Setup → ℕ → List ℕ → Type 0
Below g top list = Exactly (λ S. WayOut g S × (S < top)) list

-- a way out from `low` up and below `high`
abbrev pub WayOutBetween : Setup → ℕ → ℕ → Type 0
WayOutBetween g low high = (S : ℕ) × WayOut g S × (low ≤ S) × (S < high)

-- The node's branch is the ways out from `given` up and below `given + 2 ^ left`: those before it are found.
pub record Reached (g : Setup) (node : Node) (found : List ℕ) : Type 0 where
  pub decided : AboveDecided (count g) node.left node.given node.kept
  pub before : Below g node.given found

-- and a model, of which the witness tells, shows that the branch has one
pub record Witnessed (g : Setup) (live : Live) (found : List ℕ) : Type 0 where
  pub reached : Reached g live.node found
  pub model : List ℕ
  pub meets : Meets g live.node.kept found model
  pub shows : Shows g model live.witness

-- The question before a node: the node, live now; there is none only where its branch has no way out.
abbrev pub Enters : Setup → ℕ → ℕ → List ℕ → Option Live → Type 0
Enters g left given found (Some live) = Witnessed g live found × (live.node.left ≡ left) × (live.node.given ≡ given)
Enters g left given found None = ¬ WayOutBetween g given (given + 2 ^ left)

-- ---- what the walk leaves

-- the sets written over the first places, as many as there are places for
abbrev pub over : List ℕ → List ℕ → List ℕ
over [] places = places
over (S ∷ sets) [] = []
over (S ∷ sets) (P ∷ places) = S ∷ over sets places

-- 5, 6 over three places leaves the third; over one place only 5 has room
example_over : (over (5 ∷ 6 ∷ []) (7 ∷ 8 ∷ 9 ∷ []) ≡ 5 ∷ 6 ∷ 9 ∷ []) × (over (5 ∷ 6 ∷ []) (7 ∷ []) ≡ 5 ∷ [])
example_over = (refl, refl)

-- `filled` places hold the ways out below `top`, as many as there are places for, and the others stay as they were
pub record Walked (g : Setup) (top : ℕ) (before after : List ℕ) (filled : ℕ) : Type 0 where
  pub ways : List ℕ
  pub exact : Below g top ways
  pub places : after ≡ over ways before
  pub count : filled ≡ min (length ways) (length before)
