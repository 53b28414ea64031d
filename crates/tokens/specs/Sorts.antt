-- The sorts of characters (004, section 3.1), each as that section lists it.
use Rattle.std.specs.Prelude.{ℕ, Bool, ◌||◌}
use Rattle.chars.specs.Choice.{within, among, ascii}

-- visible US-ASCII: 21 to 7E
unfoldable pub visible : ℕ → Bool
visible number = within 0x21 0x7E number

-- whitespace: HT SP LF
unfoldable pub white : ℕ → Bool
white number = among number (ascii "\t \n")

-- atomic characters: ( ) [ ] , % ; " { }
unfoldable pub atomic : ℕ → Bool
atomic number = among number (ascii "()[],%;\"{}")

-- exclusive characters: HT SP LF ( ) [ ] , % ; # }
unfoldable pub exclusive : ℕ → Bool
exclusive number = among number (ascii "\t \n()[],%;#}")

-- inclusive characters: " {
unfoldable pub inclusive : ℕ → Bool
inclusive number = among number (ascii "\"{")

-- legal outside comments and string data
unfoldable pub legal : ℕ → Bool
legal number = visible number || white number
