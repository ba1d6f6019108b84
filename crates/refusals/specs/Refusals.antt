-- The number and the line of every refusal: [10.1] to [10.15], [16.4], [16.5]. Definitions only; assumes nothing.
use Rattle.std.specs.Prelude.{ℕ}
use Rattle.refusals.specs.declared.Refusal.{Refusal}
use Rattle.refusals.specs.declared.Refusal.TheVariants.{
  TextForm,
  LineForm,
  LineCount,
  RowDue,
  NumberRange,
  NameCount,
  TypeMisfit,
  TypeSize,
  OffsetBound,
  LoopsLength,
  WriteCount,
  LentSize,
  UnknownOrder,
  StoreSize,
  ValueLines,
  WordsForm,
  WordTwice,
  LanesInside,
}

-- [10.17] A refusal is told by the number of its question,
abbrev pub refusal_number : Refusal → ℕ
refusal_number TextForm = 1
refusal_number (LineForm l) = 2
refusal_number LineCount = 3
refusal_number (RowDue l) = 4
refusal_number (NumberRange l) = 5
refusal_number (NameCount l) = 6
refusal_number (TypeMisfit l) = 7
refusal_number (TypeSize l) = 8
refusal_number (OffsetBound l) = 9
refusal_number LoopsLength = 10
refusal_number WriteCount = 11
refusal_number LentSize = 12
refusal_number UnknownOrder = 13
refusal_number StoreSize = 14
refusal_number ValueLines = 15
refusal_number WordsForm = 16
refusal_number WordTwice = 17
refusal_number (LanesInside l) = 18

-- [10.17] and by a line: from 1, or 0 where the question is put to a whole.
abbrev pub refusal_line : Refusal → ℕ
refusal_line TextForm = 0
refusal_line (LineForm l) = l
refusal_line LineCount = 0
refusal_line (RowDue l) = l
refusal_line (NumberRange l) = l
refusal_line (NameCount l) = l
refusal_line (TypeMisfit l) = l
refusal_line (TypeSize l) = l
refusal_line (OffsetBound l) = l
refusal_line LoopsLength = 0
refusal_line WriteCount = 0
refusal_line LentSize = 0
refusal_line UnknownOrder = 0
refusal_line StoreSize = 0
refusal_line ValueLines = 0
refusal_line WordsForm = 0
refusal_line WordTwice = 0
refusal_line (LanesInside l) = l
