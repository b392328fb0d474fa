-- A quoted text as the bytes that stand for it. Assumes nothing.
use Rattle.std.specs.Prelude.{ℕ, List}
use Prim.Native.String.{String, [], ◌∷◌}
use Prim.Native.Char.{code}

abbrev pub bytes : String → List ℕ
bytes [] = List.[]
bytes (c ∷ s) = List.◌∷◌ (code c) (bytes s)
