-- The parts of a tuple, one after the other. Assumes nothing.

infixr 20 ◌also◌
abbrev pub ◌also◌ : {A B : Type 0} → A → B → A × B
a also b = (a, b)
