use Rattle.std.proofs.Common.{◌≡◌, ◌+◌, ◌%◌, Bool, true, false, ◌&&◌, List, ℕ, length, leb, rules, tests}
use Rattle.link_rules.specs.Octets.{le_at}
use Rattle.image_store.specs.Plain.{plain_node}
use Rattle.image_store.proofs.plain_node.Goals as goal
use Rattle.image_store.proofs.plain_node.Goals.{then-at-img, else-at-img, then-u64_at-le9218868437227405312, else-u64_at-le9218868437227405312}

-- it lies within bs, and neither float is a NaN
abbrev within : List ℕ → ℕ → Bool
within bs at = leb (at + 32) (length bs)

abbrev number : List ℕ → ℕ → Bool
number bs at = leb (le_at 8 bs at % 0x8000_0000_0000_0000) 0x7ff0_0000_0000_0000

all_four : (a b c d v : Bool) → v ≡ ((a && b) && c) → v ≡ true → d ≡ (a && (b && (c && d)))
all_four true true true d v e t = λ i. d
all_four true true false d v e t = cc
all_four true false c d v e t = cc
all_four false b c d v e t = cc

not_three : (a b c d v : Bool) → v ≡ ((a && b) && c) → v ≡ false → v ≡ (a && (b && (c && d)))
not_three true true true d v e f = cc
not_three true true false d v e f = f
not_three true false c d v e f = f
not_three false b c d v e f = f

pub returns-then-u64_at-le9218868437227405312-2 : goal.returns-then-u64_at-le9218868437227405312-2
unfolding plain_node
returns-then-u64_at-le9218868437227405312-2 c =
    let bs = c.args.img.now in
    let p = c.args.at in
    let two : c.if-at-img.value ≡ (within bs p && number bs p) =
    elim c.if-at-img.branch [ then-at-img w ↦ search (rules, tests) | else-at-img w ↦ search (rules, tests) ] in
    let three : c.if-u64_at-le9218868437227405312.value ≡ ((within bs p && number bs p) && number bs (p + 8)) =
    rw (← two) elim c.if-u64_at-le9218868437227405312.branch [ then-u64_at-le9218868437227405312 w ↦ search (rules, tests) | else-u64_at-le9218868437227405312 w ↦ search (rules, tests) ] in
    rw c.u64_at-then-u64_at-le9218868437227405312-2.ensures (all_four (within bs p) (number bs p) (number bs (p + 8)) _ _ three c.if-u64_at-le9218868437227405312-2.true)

pub returns-else-u64_at-le9218868437227405312-2 : goal.returns-else-u64_at-le9218868437227405312-2
unfolding plain_node
returns-else-u64_at-le9218868437227405312-2 c =
    let bs = c.args.img.now in
    let p = c.args.at in
    let two : c.if-at-img.value ≡ (within bs p && number bs p) =
    elim c.if-at-img.branch [ then-at-img w ↦ search (rules, tests) | else-at-img w ↦ search (rules, tests) ] in
    let three : c.if-u64_at-le9218868437227405312.value ≡ ((within bs p && number bs p) && number bs (p + 8)) =
    rw (← two) elim c.if-u64_at-le9218868437227405312.branch [ then-u64_at-le9218868437227405312 w ↦ search (rules, tests) | else-u64_at-le9218868437227405312 w ↦ search (rules, tests) ] in
    not_three (within bs p) (number bs p) (number bs (p + 8)) _ _ three c.if-u64_at-le9218868437227405312-2.false
