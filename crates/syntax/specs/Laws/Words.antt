-- A fact of each word of a sort, given as one tuple in the table's order, holds of every row of that sort. Assumes nothing.
use Rattle.std.specs.Prelude.{◌≡◌, List, [], ◌∷◌, ℕ, zero, suc, ◌+◌, get_or, Option, Some, None}
use Rattle.std.proofs.Common.{subst, arith}
use Rattle.words.specs.Words.{Entry, entry, table, operands_as, operands_of}
use Rattle.words.specs.declared.Sort.{Sort}

-- a fact of each word from kind k on that makes rows of the sort, of the word's kind and operands
abbrev AtWord : (ℕ → ℕ → Type 0) → ℕ → Option ℕ → Type 0 → Type 0
AtWord P k (Some m) rest = P k m × rest
AtWord P k None rest = rest

unfoldable pub EachWord : Sort → (ℕ → ℕ → Type 0) → ℕ → List Entry → Type 0
EachWord s P k [] = Unit {0}
EachWord s P k (e ∷ es) = AtWord P k (operands_as s e.uses) (EachWord s P (suc k) es)

later : (P : ℕ → ℕ → Type 0) (k : ℕ) (o : Option ℕ) (rest : Type 0) → AtWord P k o rest → rest
later P k (Some m) rest f = f.1
later P k None rest f = f

here : (P : ℕ → ℕ → Type 0) (k : ℕ) (o : Option ℕ) (rest : Type 0) (m : ℕ) → o ≡ Some m → AtWord P k o rest → P k m
here P k (Some n) rest m e f = let q : n ≡ m = cc in subst (P k) q f.0
here P k None rest m e f = absurd (let y : ◌≡◌ {A = ℕ} 0 1 = cc in omega arith)

word_from : (s : Sort) (P : ℕ → ℕ → Type 0) (j : ℕ) (es : List Entry) → EachWord s P j es → (k m : ℕ) → operands_as s (get_or es k (entry "" [])).uses ≡ Some m → P (j + k) m
unfolding EachWord
word_from s P j [] f k m e = absurd (let y : ◌≡◌ {A = ℕ} 0 1 = cc in omega arith)
word_from s P j (x ∷ es) f zero m e = subst (λ (i : ℕ). P i m) (omega arith) (here P j (operands_as s x.uses) (EachWord s P (suc j) es) m e f)
word_from s P j (x ∷ es) f (suc k) m e =
    subst (λ (i : ℕ). P i m) (omega arith) (word_from s P (suc j) es (later P j (operands_as s x.uses) (EachWord s P (suc j) es) f) k m e)

pub each_word : (s : Sort) (P : ℕ → ℕ → Type 0) → EachWord s P 0 table → (k m : ℕ) → operands_of k s ≡ Some m → P k m
unfolding operands_of
each_word s P f k m e = subst (λ (i : ℕ). P i m) (omega arith) (word_from s P 0 table f k m e)
