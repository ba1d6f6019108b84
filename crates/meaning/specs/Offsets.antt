-- The rows that an expression read, or an acceptor written, comes to: [6.17] to [6.23]; section 4.3 and Figure 5 of the paper, with
-- the fault of [14.4] mended. Definitions only; assumes nothing.
use Rattle.std.specs.Prelude.{List, [], ◌∷◌, ℕ, suc, ◌-◌}
use Rattle.meaning.specs.Types.{DataType, cells, number, array, vector}
use Rattle.meaning.specs.Loops.{Offset, Place, Value, plus, times, over, rest}
use Rattle.meaning.specs.Paths.{Step, Path, head_index, tail, by_part, index, first, second}
use Rattle.meaning.specs.Expressions.{Expression, Acceptor}

-- the index that a path begins with
abbrev pub leading_index : Path Offset → Offset
leading_index p = head_index (Offset.literal 0) p

-- [6.18] A summand for each step, the outermost first: index i adds `times,c i`, a second part adds `lit,f`, a first part nothing.
-- [6.19] c and f are those of the type that is stored. [6.21] `times,1` stands too, [18.13] and so of every lane.
abbrev pub summands : DataType → Path Offset → List Offset
summands number p = []
summands (array n t) p = times (cells t) (leading_index p) ∷ summands t (tail p)
summands (DataType.pair s t) p = by_part p (summands s (tail p)) (Offset.literal (cells s) ∷ summands t (tail p))
summands (vector w) p = times 1 (leading_index p) ∷ []

-- [6.20] The sum so far `plus` the next summand; a sum of nothing is `lit,0`.
abbrev pub sum_onto : Offset → List Offset → Offset
sum_onto o [] = o
sum_onto o (x ∷ xs) = sum_onto (plus o x) xs

abbrev pub sum_of : List Offset → Offset
sum_of [] = Offset.literal 0
sum_of (x ∷ xs) = sum_onto x xs

abbrev pub offset_of : DataType → Path Offset → Offset
offset_of t p = sum_of (summands t p)

-- [6.22] A path into groups of n as a path into the flat array, and the other way round.
-- [14.4] The trap of Figure 5: n, which multiplies and divides, is the length of a group and never how many groups there are.
abbrev pub ungrouped : ℕ → Path Offset → Path Offset
ungrouped n p = index (plus (times n (leading_index p)) (leading_index (tail p))) ∷ tail (tail p)

abbrev pub grouped : ℕ → Path Offset → Path Offset
grouped n p = index (over n (leading_index p)) ∷ index (rest n (leading_index p)) ∷ tail p

-- [6.23] An element of a zip is a pair: its index stays, and the step to the part goes, or comes.
abbrev pub unzipped : Path Offset → Path Offset
unzipped p = index (leading_index p) ∷ tail (tail p)

abbrev pub zipped_at : Step Offset → Path Offset → Path Offset
zipped_at part p = index (leading_index p) ∷ part ∷ tail p

-- An expression read at a path, Figure 5c: [6.19] what is stored; [6.23] `zip` and `pair`; [6.22] a `split` becomes one index, a
-- `join` two; [6.18] parts and elements are steps.
abbrev pub read_at : Expression → Path Offset → Value
read_at (Expression.input k t) p = Value.input k (offset_of t p)
read_at (Expression.region l t) p = Value.region l (offset_of t p)
read_at (Expression.literal v) p = Value.literal v
read_at (Expression.negate E) p = Value.negate (read_at E p)
read_at (Expression.operation o E F) p = Value.operation o (read_at E p) (read_at F p)
read_at (Expression.zip E F) p = by_part (tail p) (read_at E (unzipped p)) (read_at F (unzipped p))
read_at (Expression.pair E F) p = by_part p (read_at E (tail p)) (read_at F (tail p))
read_at (Expression.split n E) p = read_at E (ungrouped n p)
read_at (Expression.join n E) p = read_at E (grouped n p)
read_at (Expression.first E) p = read_at E (first ∷ p)
read_at (Expression.second E) p = read_at E (second ∷ p)
read_at (Expression.index E i) p = read_at E (index i ∷ p)

-- An acceptor written at a path, Figure 5b: [6.19], [6.18], [6.23], and [6.22] the other way round: a `split` becomes two indices, a
-- `join` one.
abbrev pub write_at : Acceptor → Path Offset → Place
write_at (Acceptor.output t) p = Place.output (offset_of t p)
write_at (Acceptor.region l t) p = Place.region l (offset_of t p)
write_at (Acceptor.index P i) p = write_at P (index i ∷ p)
write_at (Acceptor.first P) p = write_at P (first ∷ p)
write_at (Acceptor.second P) p = write_at P (second ∷ p)
write_at (Acceptor.zip_first P) p = write_at P (zipped_at first p)
write_at (Acceptor.zip_second P) p = write_at P (zipped_at second p)
write_at (Acceptor.split n P) p = write_at P (grouped n p)
write_at (Acceptor.join n P) p = write_at P (ungrouped n p)

-- [3.16] [6.17] Numbers from the inside: level l, under c counters, is number c − 1 − l; of regions likewise.
abbrev pub offset_from_innermost : ℕ → Offset → Offset
offset_from_innermost c (Offset.literal v) = Offset.literal v
offset_from_innermost c (Offset.counter l) = Offset.counter (c - suc l)
offset_from_innermost c (plus x y) = plus (offset_from_innermost c x) (offset_from_innermost c y)
offset_from_innermost c (times n x) = times n (offset_from_innermost c x)
offset_from_innermost c (over n x) = over n (offset_from_innermost c x)
offset_from_innermost c (rest n x) = rest n (offset_from_innermost c x)

abbrev pub value_from_innermost : ℕ → ℕ → Value → Value
value_from_innermost c r (Value.input k o) = Value.input k (offset_from_innermost c o)
value_from_innermost c r (Value.region l o) = Value.region (r - suc l) (offset_from_innermost c o)
value_from_innermost c r (Value.literal v) = Value.literal v
value_from_innermost c r (Value.negate v) = Value.negate (value_from_innermost c r v)
value_from_innermost c r (Value.operation o v w) =
    Value.operation o (value_from_innermost c r v) (value_from_innermost c r w)

abbrev pub place_from_innermost : ℕ → ℕ → Place → Place
place_from_innermost c r (Place.output o) = Place.output (offset_from_innermost c o)
place_from_innermost c r (Place.region l o) = Place.region (r - suc l) (offset_from_innermost c o)
