-- What the program sheet prints for a bundle (document 01, Program sheet): refusal 17 first, then the check of the bundle's yard as text. Assumes nothing.
use Rattle.std.specs.Prelude.{ℕ, zero, suc, ◌+◌, ◌*◌, ◌-◌, Bool, true, false, cond, ◌&&◌, List, [], ◌∷◌, ◌++◌, leb, eqb, length, drop, replicate}
use Rattle.link_rules.specs.Octets.{le_at}
use Rattle.disp_structs.specs.Listed.{listed}
use Rattle.image_reader.specs.Reader.{free_of}
use Rattle.image_fault.specs.ImageFault.{image_fault}
use Rattle.text.specs.Ascii.{ascii, decimal, column, line_end}
use Rattle.yard_check.specs.Yard.{slot_count, part_of, yard_fits}
use Rattle.yard_check.specs.Check.{row_size, Row, row_at, Answer, Refused, Erred, Done, Checked, checked}

-- ---- bundle: u32 size, occupancy offset, count, blocking offset, count, yard offset; u16 moved, begin, limit, local; u16 occupancy, u32 blocking, yard

abbrev pub occupancy_count : List ℕ → ℕ
occupancy_count b = le_at 4 b 8

abbrev pub blocking_offset : List ℕ → ℕ
blocking_offset b = le_at 4 b 12

abbrev pub blocking_count : List ℕ → ℕ
blocking_count b = le_at 4 b 16

abbrev pub yard_offset : List ℕ → ℕ
yard_offset b = le_at 4 b 20

-- the parts follow the 32 bytes of the header without gaps, the yard up to the end
unfoldable pub parts_fit : List ℕ → Bool
parts_fit b =
    eqb (le_at 4 b 4) 32 && (eqb (blocking_offset b) (32 + 2 * occupancy_count b)
    && (eqb (yard_offset b) (blocking_offset b + 4 * blocking_count b) && leb (yard_offset b) (length b)))

-- local is 0 or 1
unfoldable pub bundle_fits : List ℕ → Bool
bundle_fits b = leb (length b) 65536 && (eqb (le_at 4 b 0) (length b) && (leb (le_at 2 b 30) 1 && parts_fit b))

abbrev pub bundle_occupancy : List ℕ → List ℕ
bundle_occupancy b = listed (occupancy_count b) (λ i. le_at 2 b (32 + 2 * i))

abbrev pub bundle_blocking : List ℕ → List ℕ
bundle_blocking b = listed (blocking_count b) (λ i. le_at 4 b (blocking_offset b + 4 * i))

abbrev pub bundle_yard : List ℕ → List ℕ
bundle_yard b = drop (yard_offset b) b

-- as many slots as the report needs; a yard that 14 refuses needs none
unfoldable pub report_slots : List ℕ → ℕ
report_slots yard = cond (yard_fits yard) (slot_count yard) 0

-- the check of a bundle's yard
unfoldable pub checked_bundle : List ℕ → Checked
checked_bundle b =
    checked (bundle_yard b) (bundle_occupancy b) (bundle_blocking b) (le_at 2 b 24) (le_at 2 b 26) (eqb (le_at 2 b 30) 1) (le_at 2 b 28) (replicate (row_size false * report_slots (bundle_yard b)) 0)

-- ---- the sheet

abbrev pub refused_word : ℕ → List ℕ
refused_word n = ascii "refused-" ++ decimal n

-- by the report's code; 16 + n is refused n
unfoldable pub code_word : ℕ → List ℕ
code_word c =
    cond (eqb c 0) (ascii "unvisited")
    (cond (eqb c 1) (ascii "finished")
    (cond (eqb c 2) (ascii "moved")
    (cond (eqb c 3) (ascii "success")
    (cond (eqb c 4) (ascii "blocked")
    (cond (eqb c 5) (ascii "faulty")
    (refused_word (c - 16)))))))

abbrev pub refused_line : ℕ → List ℕ
refused_line n = ascii "refused" ++ (column n ++ line_end)

abbrev pub yes_or_no : Bool → List ℕ
yes_or_no true = ascii "yes"
yes_or_no false = ascii "no"

-- free of the image that is left, 0 for a bad image
unfoldable pub free_column : List ℕ → ℕ → ℕ
free_column img links = cond (eqb (image_fault img links).number 0) (free_of img) 0

-- rounds, holder, strays, faults, free, met
abbrev pub row_columns : Row → ℕ → List ℕ
row_columns r free = column r.rounds ++ (column r.holder ++ (column r.strays ++ (column r.faults ++ (column free ++ (column r.met ++ line_end)))))

-- slot, code word and the columns
unfoldable pub slot_line : ℕ → Row → ℕ → List ℕ
slot_line t r free = decimal t ++ (32 ∷ (code_word r.code ++ row_columns r free))

-- of slots 1 to n, from the yard and the report that are left
unfoldable pub slot_lines : (yard report : List ℕ) (links n : ℕ) → List ℕ
slot_lines yard report links zero = []
slot_lines yard report links (suc n) = slot_lines yard report links n ++ slot_line (suc n) (row_at false report (suc n)) (free_column (part_of yard (suc n)) links)

abbrev pub first_line : Answer → ℕ → List ℕ
first_line (Refused r) slots = refused_line r.number
first_line (Erred k) slots = ascii "yard" ++ (column slots ++ (ascii " erred" ++ (column k ++ line_end)))
first_line (Done deadlock next) slots = ascii "yard" ++ (column slots ++ (ascii " deadlock " ++ (yes_or_no deadlock ++ (ascii " next" ++ (column next ++ line_end)))))

-- a refused check has one line
abbrev pub check_text : Answer → List ℕ → List ℕ → List ℕ
check_text (Refused r) first slots = first
check_text (Erred k) first slots = first ++ slots
check_text (Done deadlock next) first slots = first ++ slots

-- of a check, and the number of links that an image is judged by
unfoldable pub check_lines : Checked → ℕ → List ℕ
check_lines c links =
    let slots = slot_count c.yard in
    check_text c.answer (first_line c.answer slots) (slot_lines c.yard c.report links slots)

unfoldable pub sheet_text : List ℕ → List ℕ
sheet_text b = let text = check_lines (checked_bundle b) (occupancy_count b) in elim (bundle_fits b) [ true ↦ text | false ↦ refused_line 17 ]
