-- Which texts are names of entries, and what is wrong with the others.
-- POSIX.1-2017, base definitions, chapter 3: Filename, Dot, Dot-Dot.
use Rattle.std.specs.Prelude.{ℕ, Bool, not, ◌&&◌, ◌||◌, ◌==◌, nat_le, nat_lt, if◌then◌else◌, List, length, Result, Ok, Err, codes}
use Rattle.std.specs.Bool.{nat_eq}
use Rattle.std.specs.Cmp.Lexicographic.{pointwise}
use Rattle.std.specs.List.{list_any}
use Rattle.std.specs.Str.{is_utf8}
use Rattle.assise_names.specs.declared.path.PathFault.{PathFault}
use Rattle.assise_names.specs.declared.path.PathFault.TheVariants.{EmptyName, BadName, NameTooLong}

-- a slash or a NUL
abbrev pub is_barred : ℕ → Bool
is_barred b = (b == 47) || (b == 0)

abbrev pub is_dots : List ℕ → Bool
is_dots text = pointwise nat_eq text (codes ".") || pointwise nat_eq text (codes "..")

-- 1 to 255 bytes of UTF-8, without a slash or a NUL, and neither `.` nor `..`
abbrev pub is_name : List ℕ → Bool
is_name bytes = is_utf8 bytes && (not (length bytes == 0) && (nat_le (length bytes) 255 && not (list_any is_barred bytes || is_dots bytes)))

-- the name that a text is, or the first thing that is wrong with it
abbrev pub name_of : List ℕ → Result (List ℕ) PathFault
name_of text =
    if length text == 0 then Err EmptyName
    else (if nat_lt 255 (length text) then Err NameTooLong
    else (if list_any is_barred text || is_dots text then Err BadName
    else Ok text))
