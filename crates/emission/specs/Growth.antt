-- A table of references that grows: T is the table before and U after. Definitions only; assumes nothing.
use Rattle.std.specs.Prelude.{◌≡◌, List, ℕ, ◌+◌, get_or, length, take}
use Rattle.emission.specs.Nodes.{node_of}

-- U is T up to node len
pub record Grown (T U : List ℕ) (len : ℕ) : Type 0 where
  pub same : take len U ≡ take len T
  pub size : length U ≡ 1024

-- U is T up to node len, which is w
pub record Pushed (T U : List ℕ) (len w : ℕ) : Type 0 where
  pub grown : Grown T U len
  pub node : get_or U len 0 ≡ w

-- two nodes of one kind: over v, and then over q
pub record BothPushed (T U : List ℕ) (len k n v q : ℕ) : Type 0 where
  pub between : List ℕ
  pub over_value : Pushed T between len (node_of k 0 n v 0)
  pub over_target : Pushed between U (len + 1) (node_of k 0 n q 0)
