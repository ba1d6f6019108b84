-- The table of words: [2.1] to [2.3]; and looking a word up in it: [1.3], [17.1]. Definitions only; assumes nothing.
use Rattle.std.specs.Prelude.{Bool, true, false, cond, ◌&&◌, List, [], ◌∷◌, map, ℕ, suc, eqb, get_or, Option, Some, None}
use Prim.Native.Char.{code}
use Prim.Native.String.{String, [] as none, ◌∷◌ as ◌before◌}
use Rattle.words.specs.declared.Sort.{Sort}
use Rattle.words.specs.declared.Sort.TheVariants.{Plan, DataType, Term, Loops, Cells, Command, Place, Value, Offset}

-- the bytes of a text
abbrev pub bytes : String → List ℕ
bytes none = []
bytes (c before s) = code c ∷ bytes s

-- [2.2] A word: its letters, and for each sort of which it makes rows the count of their operands.
pub record Entry : Type 0 where
  pub letters : List ℕ
  pub uses : List (Sort × ℕ)

abbrev pub entry : String → List (Sort × ℕ) → Entry
entry w us = record { letters = bytes w; uses = us }

-- [2.2] In the order of the kinds [1.8]. [2.3] The operands of `plan` and `loops` stand behind the inputs that their number counts: a
-- term; the output's `cells` and a command.
unfoldable pub table : List Entry
table =
    entry "plan" ((Plan, 1) ∷ [])
    ∷ entry "num" ((DataType, 0) ∷ [])
    ∷ entry "arr" ((DataType, 1) ∷ [])
    ∷ entry "two" ((DataType, 2) ∷ [])
    ∷ entry "in" ((Term, 0) ∷ (Value, 1) ∷ [])
    ∷ entry "var" ((Term, 0) ∷ [])
    ∷ entry "lit" ((Term, 0) ∷ (Value, 0) ∷ (Offset, 0) ∷ [])
    ∷ entry "neg" ((Term, 1) ∷ (Value, 1) ∷ [])
    ∷ entry "add" ((Term, 2) ∷ (Value, 2) ∷ [])
    ∷ entry "sub" ((Term, 2) ∷ (Value, 2) ∷ [])
    ∷ entry "mul" ((Term, 2) ∷ (Value, 2) ∷ [])
    ∷ entry "div" ((Term, 2) ∷ (Value, 2) ∷ [])
    ∷ entry "min" ((Term, 2) ∷ (Value, 2) ∷ [])
    ∷ entry "max" ((Term, 2) ∷ (Value, 2) ∷ [])
    ∷ entry "mappar" ((Term, 2) ∷ [])
    ∷ entry "mapseq" ((Term, 2) ∷ [])
    ∷ entry "redseq" ((Term, 3) ∷ [])
    ∷ entry "zip" ((Term, 2) ∷ [])
    ∷ entry "pair" ((Term, 2) ∷ [])
    ∷ entry "split" ((Term, 1) ∷ [])
    ∷ entry "join" ((Term, 1) ∷ [])
    ∷ entry "fst" ((Term, 1) ∷ [])
    ∷ entry "snd" ((Term, 1) ∷ [])
    ∷ entry "idx" ((Term, 1) ∷ [])
    ∷ entry "loops" ((Loops, 2) ∷ [])
    ∷ entry "cells" ((Cells, 0) ∷ [])
    ∷ entry "set" ((Command, 2) ∷ [])
    ∷ entry "seq" ((Command, 2) ∷ [])
    ∷ entry "for" ((Command, 1) ∷ [])
    ∷ entry "par" ((Command, 1) ∷ [])
    ∷ entry "new" ((Command, 1) ∷ [])
    ∷ entry "out" ((Place, 1) ∷ [])
    ∷ entry "loc" ((Place, 1) ∷ (Value, 1) ∷ [])
    ∷ entry "ctr" ((Offset, 0) ∷ [])
    ∷ entry "plus" ((Offset, 2) ∷ [])
    ∷ entry "times" ((Offset, 1) ∷ [])
    ∷ entry "over" ((Offset, 1) ∷ [])
    ∷ entry "rest" ((Offset, 1) ∷ [])
    ∷ entry "vec" ((DataType, 0) ∷ [])
    ∷ entry "asvec" ((Term, 1) ∷ [])
    ∷ entry "asscal" ((Term, 1) ∷ [])
    ∷ entry "mapvec" ((Term, 2) ∷ [])
    ∷ entry "at" ((Term, 1) ∷ [])
    ∷ entry "lanes" ((Command, 1) ∷ [])
    ∷ []

-- the letters alone: another table of words may stand in their place
unfoldable pub words : List (List ℕ)
words = map (λ (e : Entry). e.letters) table

-- the word at a place of a table, with no letters past its end
abbrev pub word_at : List (List ℕ) → ℕ → List ℕ
word_at ws k = get_or ws k []

unfoldable pub same_letters : List ℕ → List ℕ → Bool
same_letters [] [] = true
same_letters [] (w ∷ ws) = false
same_letters (l ∷ ls) [] = false
same_letters (l ∷ ls) (w ∷ ws) = eqb l w && same_letters ls ws

-- [1.3] the first place, counted from k, at which a table has the word
unfoldable pub look_from : ℕ → List (List ℕ) → List ℕ → Option ℕ
look_from k [] l = None
look_from k (w ∷ ws) l = cond (same_letters l w) (Some k) (look_from (suc k) ws l)

abbrev pub look_up : List (List ℕ) → List ℕ → Option ℕ
look_up ws l = look_from 0 ws l

-- [17.1] how many rows of a table are compared with a word, one after the other, up to the first that has it
unfoldable pub compared : List (List ℕ) → List ℕ → ℕ
compared [] l = 0
compared (w ∷ ws) l = suc (cond (same_letters l w) 0 (compared ws l))

-- [2.1] the sorts, in that order
abbrev pub column_of : Sort → ℕ
column_of Plan = 0
column_of DataType = 1
column_of Term = 2
column_of Loops = 3
column_of Cells = 4
column_of Command = 5
column_of Place = 6
column_of Value = 7
column_of Offset = 8

-- the operands of a row of sort s, of a word with these uses
abbrev pub operands_as : Sort → List (Sort × ℕ) → Option ℕ
operands_as s [] = None
operands_as s (u ∷ us) = cond (eqb (column_of s) (column_of u.0)) (Some u.1) (operands_as s us)

-- the entry of kind k; past the table's end one with no letters and no use
abbrev pub entry_at : ℕ → Entry
entry_at k = get_or table k (entry "" [])

-- [2.2] the operands of a row of kind k as a row of sort s
unfoldable pub operands_of : ℕ → Sort → Option ℕ
operands_of k s = operands_as s (entry_at k).uses
