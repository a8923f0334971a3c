-- What was read, whether a read failed or not. Assumes nothing.
use Rattle.std.specs.Prelude.{ℕ, Result, Ok, Err}
use Rattle.input.specs.declared.Cut.{Cut}

-- how many bytes
abbrev pub count_given : Result ℕ Cut → ℕ
count_given (Ok end) = end
count_given (Err cut) = cut.end
