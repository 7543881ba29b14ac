use mathlib.Core.Path.{◌≡◌, refl, ap, ap₂, ◌∙◌}
use mathlib.Core.Bool.{Bool, true, false}
use mir.Val.{bool_byte}
use mathlib.Core.List.{List}
use Prim.Native.Nat.{ℕ}
use native.Mathlib.Omega.{arith}
use lib.ListN.{length, replicate, length-replicate}
use Rattle.link_rules.specs.Octets.{put_le}
use Rattle.disp_structs.specs.Listed.{listed}
use Rattle.image.specs.Image.{is_wide, diverge_place, diverge_at}
use Rattle.image.specs.Codec.{wide_number}
use Rattle.image.proofs.WidthLaws.{words_twice}
use Rattle.image_fault.specs.declared.Widths.TheVariants.{Either}
use Rattle.image_fault.proofs.AcceptLaws.{accepted_in, fits-counts, good-image}
use Rattle.image_store.specs.Stored.{diverges_into}
use Rattle.conversion.proofs.ConvertedBytes.{written}
use Rattle.conversion.proofs.convert.Goals as goal

number : (wide : Bool) → bool_byte wide ≡ wide_number wide
number true = refl
number false = refl

pub overflow_cast-size : goal.overflow_cast-size
overflow_cast-size c = let a = c.args in
    let img = a.image.now in
    let k = fits-counts img (accepted_in Either img 4000 c.requires.0).fits in
    let n = words_twice a.wide c.diverge_room.result in
    omega (arith, c.diverge_place-size.ensures, c.diverge_room.ensures, c.est_count-e.ensures, k.few-est, k.few-room)

pub copy_front-requires : goal.copy_front-requires
copy_front-requires c = let a = c.args in
    let p = c.requires in
    let img = a.image.now in
    let ok = accepted_in Either img 4000 p.0 in
    let g = good-image img ok.fits 4000 ok.values (λ i. omega (arith, c.shared_slice_known-1.given i)) in
    let e = c.est_count-e.ensures in
    let long : length c.zero_all.new.s ≡ length a.out.now = ap length c.zero_all.ensures ∙ length-replicate (length a.out.now) 0 in
    (omega (arith, c.diverge_place.ensures, e, g.long), omega (arith, c.diverge_place.ensures, e, long, p.1))

pub returns : goal.returns
returns c = let a = c.args in
    let p = c.requires in
    let img = a.image.now in
    let ok = accepted_in Either img 4000 p.0 in
    let g = good-image img ok.fits 4000 ok.values (λ i. omega (arith, c.shared_slice_known-1.given i)) in
    let e = c.est_count-e.ensures in
    let front = c.diverge_place.ensures ∙ ap (λ (x : ℕ). diverge_place a.wide x 0) e in
    let size = c.diverge_place-size.ensures ∙ ap₂ (λ (x y : ℕ). diverge_place a.wide x y) e c.diverge_room.ensures in
    let copied = c.copy_front in
    let o2 = copied.new.out in
    let o4 = c.put_u16.new.s in
    written a.wide img c.zero_all.new.s o2 o4 c.put_diverges.new.out g (fits-counts img ok.fits)
    (λ i. omega (arith, c.slice_known-5-1.given i)) (λ i. omega (arith, c.slice_known-6-1.given i))
    (c.zero_all.ensures ∙ ap (λ (n : ℕ). replicate n 0) p.1)
    copied.ensures.0 (λ i l. copied.ensures.1 i (omega (arith, front))) (λ i l. copied.ensures.2 i (omega (arith, front)))
    (c.put_u16.ensures ∙ ap₂ (λ (w : ℕ) (x : List ℕ). put_le 2 w 42 x) (number a.wide) (c.put_u32.ensures ∙ ap (λ (n : ℕ). put_le 4 n 0 o2) size))
    (c.put_diverges.ensures ∙ ap (λ (m : ℕ). diverges_into (is_wide o4) (listed m (diverge_at img)) o4) c.diverge_count.ensures)
