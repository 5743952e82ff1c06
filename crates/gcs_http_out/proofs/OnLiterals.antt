-- What a proof names to have the decimal text of a literal number computed
use Rattle.std.specs.Prelude.{⊤}
use Rattle.std.specs.Fmt.{digits}

unfoldable pub decimals_on_literals : ⊤
unfolding digits
decimals_on_literals = tt
