-- What a contract sees of a text that may lie in the value itself.
use Rattle.std.specs.Prelude.{ℕ, List}
use Rattle.std.specs.Arc.{arc_str_bytes}
use Rattle.assise_names.specs.declared.text.Text.{Text}
use Rattle.assise_names.specs.declared.text.Text.TheVariants.{Short, Shared}

-- the bytes of the text
abbrev pub text_bytes : Text → List ℕ
text_bytes (Short short) = short.bytes
text_bytes (Shared shared) = arc_str_bytes shared
