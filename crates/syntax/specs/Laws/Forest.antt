-- Rows that are those of a tree in range, and of such trees one after the other. Assumes nothing.
use Rattle.std.specs.Prelude.{◌≡◌, refl, Bool, true, false, cond, ◌&&◌, List, [], ◌∷◌, ◌++◌, ℕ, ◌+◌, ◌≤◌, ◌<◌, eqb, ltb, leb, ℤ, pos, negsuc}
use Rattle.std.proofs.Common.{sym, ap, ap₂, ◌∙◌, subst, inl, inr, append_assoc, append-nil, arith, ltb-true, leb-true, eqb-true}
use Rattle.words.specs.Kinds.{Row, word_cells}
use Rattle.words.specs.Groups.{one_of}
use Rattle.words.specs.declared.Sort.{Sort}
use Rattle.words.specs.declared.Sort.TheVariants as sort
use Rattle.meaning.specs.Types.{DataType}
use Rattle.meaning.specs.Terms.{Term, Plan}
use Rattle.meaning.specs.Loops.{Offset, Place, Value, Command, Loops}
use Rattle.meaning.specs.Limits.{IsCount, IsWidth}
use Rattle.meaning.proofs.Laws.Lanes.{LanesFit}
use Rattle.meaning.specs.Rows.{type_rows, term_rows, plan_rows, offset_rows, value_rows, place_rows, command_rows, loops_rows}
use Rattle.syntax.specs.declared.names.Names.{Names}
use Rattle.syntax.specs.declared.operands.Due.{Due}
use Rattle.syntax.specs.Ranges.{as_natural, widths, in_range}
use Rattle.syntax.specs.Names.{no_names, opened_by, Bounded}
use Rattle.syntax.specs.Operands.{inputs_counted, operands_due}
use Rattle.syntax.specs.InRange.{TypeInRange, TermInRange, PlanInRange, OffsetInRange, PlaceInRange, ValueInRange, CommandInRange, LoopsInRange}

-- ---- a number in range is not negative

pub position : (z : ℤ) (b : ℕ) → b ≤ 4096 → ltb (as_natural z) b ≡ true → (z ≡ pos (as_natural z)) × (as_natural z < b)
position (pos m) b h e = (refl, ltb-true m b e)
position (negsuc m) b h e = absurd (omega (arith, ltb-true 2147483648 b e))

pub most : (z : ℤ) (b : ℕ) → b ≤ 4096 → leb (as_natural z) b ≡ true → (z ≡ pos (as_natural z)) × (as_natural z ≤ b)
most (pos m) b h e = (refl, leb-true m b e)
most (negsuc m) b h e = absurd (omega (arith, leb-true 2147483648 b e))

pub nought : (z : ℤ) → eqb (as_natural z) 0 ≡ true → z ≡ pos 0
nought (pos m) e = ap pos (eqb-true m 0 e)
nought (negsuc m) e = absurd (omega (arith, eqb-true 2147483648 0 e))

pub counted : (z : ℤ) → leb 1 (as_natural z) && leb (as_natural z) 4096 ≡ true → (z ≡ pos (as_natural z)) × IsCount (as_natural z)
counted z e = go (leb 1 (as_natural z)) refl e
  where
    go : (b : Bool) → leb 1 (as_natural z) ≡ b → b && leb (as_natural z) 4096 ≡ true → (z ≡ pos (as_natural z)) × IsCount (as_natural z)
    go true p e = let m = most z 4096 (omega arith) e in (m.0, (leb-true 1 (as_natural z) p, m.1))
    go false p e = absurd (let y : ◌≡◌ {A = ℕ} 0 1 = cc in omega arith)

pub widened : (z : ℤ) → one_of (as_natural z) widths ≡ true → (z ≡ pos (as_natural z)) × IsWidth (as_natural z)
unfolding one_of
widened (negsuc m) e = absurd (let y : ◌≡◌ {A = ℕ} 0 1 = cc in omega arith)
widened (pos m) e = (refl, go (eqb m 2) refl (eqb m 4) refl (eqb m 8) refl (eqb m 16) refl e)
  where
    go : (a : Bool) → eqb m 2 ≡ a → (b : Bool) → eqb m 4 ≡ b → (c : Bool) → eqb m 8 ≡ c → (d : Bool) → eqb m 16 ≡ d
        → cond a true (cond b true (cond c true (cond d true false))) ≡ true → IsWidth m
    go true p b q c r d s e = inl (eqb-true m 2 p)
    go false p true q c r d s e = inr (inl (eqb-true m 4 q))
    go false p false q true r d s e = inr (inr (inl (eqb-true m 8 r)))
    go false p false q false r true s e = inr (inr (inr (eqb-true m 16 s)))
    go false p false q false r false s e = absurd (let y : ◌≡◌ {A = ℕ} 0 1 = cc in omega arith)

-- ---- rows that are those of a tree in range, and of trees one after the other

-- the first row of a whole table stands where no names are in force
abbrev pub IsTree : Sort → Names → List Row → Type 0
IsTree sort.Plan N a = N ≡ no_names → (P : Plan) × PlanInRange P × (a ≡ plan_rows P)
IsTree sort.DataType N a = (t : DataType) × TypeInRange t × (a ≡ type_rows t)
IsTree sort.Term N a = (e : Term) × TermInRange N.inputs N.variables e × (a ≡ term_rows e)
IsTree sort.Loops N a = N ≡ no_names → (L : Loops) × LoopsInRange L × (a ≡ loops_rows L)
IsTree sort.Cells N a = (n : ℕ) × IsCount n × (a ≡ (word_cells, pos n) ∷ [])
IsTree sort.Command N a =
    (c : Command) × (CommandInRange N.inputs N.counters N.regions c × LanesFit N.lanes c) × (a ≡ command_rows c)
IsTree sort.Place N a = (p : Place) × PlaceInRange N.counters N.regions p × (a ≡ place_rows p)
IsTree sort.Value N a = (v : Value) × ValueInRange N.inputs N.counters N.regions v × (a ≡ value_rows v)
IsTree sort.Offset N a = (o : Offset) × OffsetInRange N.counters o × (a ≡ offset_rows o)

abbrev pub Forest : List Due → List Row → Type 0
Forest [] a = a ≡ []
Forest (d ∷ ds) a = (b : List Row) × (c : List Row) × (a ≡ b ++ c) × IsTree d.sort d.names b × Forest ds c

pub parted : (os ds : List Due) (a : List Row) → Forest (os ++ ds) a → (b : List Row) × (c : List Row) × (a ≡ b ++ c) × Forest os b × Forest ds c
parted [] ds a f = ([], a, refl, refl, f)
parted (o ∷ os) ds a f =
    let r = parted os ds f.1 f.4 in
    (f.0 ++ r.0, r.1, f.2 ∙ ap (λ (l : List Row). f.0 ++ l) r.2 ∙ sym (append_assoc f.0 r.0 r.1), (f.0, r.0, refl, f.3, r.3), r.4)

pub one : (d : Due) (a : List Row) → Forest (d ∷ []) a → IsTree d.sort d.names a
one d a f = subst (IsTree d.sort d.names) (sym (f.2 ∙ ap (λ (l : List Row). f.0 ++ l) f.4 ∙ append-nil f.0)) f.3

-- a row's word, its number and its operands
pub headed : (k : ℕ) {z y : ℤ} {a b : List Row} → z ≡ y → a ≡ b → (k, z) ∷ a ≡ (k, y) ∷ b
headed k e f = ap₂ (λ (x : ℤ) (l : List Row). (k, x) ∷ l) e f

pub joined : {a b c x y : List Row} → a ≡ b ++ c → b ≡ x → c ≡ y → a ≡ x ++ y
joined e f g = e ∙ ap₂ (λ (l r : List Row). l ++ r) f g

-- ---- what each word makes of the trees behind it

abbrev pub Node : Due → ℕ → ℕ → Type 0
Node d k m =
    (z : ℤ) (a : List Row) → in_range d.sort d.names k (as_natural z) ≡ true → Bounded (opened_by k (as_natural z) d.names)
    → Forest (operands_due d k (as_natural z) (inputs_counted d.sort (as_natural z) + m)) a → IsTree d.sort d.names ((k, z) ∷ a)
