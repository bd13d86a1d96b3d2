-- What stands next to a stamp in a map by commit stamps are the nearest versions.
use Rattle.std.proofs.Common.{◌≡◌, ◌<◌, ◌≤◌, List, Option, Some, None, refl, sym, arith, is_gt, is_lt, false, true≢false, Ordering}
use Rattle.std.specs.Cmp.{ranked, nat_cmp_is}
use Rattle.std.specs.declared.cmp.Ordering.TheVariants.{Less, Equal, Greater}
use Rattle.si_model.specs.declared.numbers.Stamp.{Stamp}
use Rattle.si_sorted.specs.Entries.{IsFirstAbove, IsLastBelow}
use Rattle.si_timeline.specs.Timelines.{Dated, IsNearestAfter, IsNearestBefore}
use Rattle.si_timeline.proofs.Entries.{stamp_cmp}

less : (a b : Stamp) → a.0 < b.0 → stamp_cmp a b ≡ Less
less a b lt = sym (nat_cmp_is a.0 b.0 Less lt)

greater : (a b : Stamp) → b.0 < a.0 → stamp_cmp a b ≡ Greater
greater a b lt = sym (nat_cmp_is a.0 b.0 Greater lt)

at_most : (a b : Stamp) → is_gt (stamp_cmp a b) ≡ false → a.0 ≤ b.0
at_most a b e = go (stamp_cmp a b) refl e
  where
    go : (o : Ordering) → stamp_cmp a b ≡ o → is_gt o ≡ false → a.0 ≤ b.0
    go Less is f = let below = ranked a.0 b.0 Less (sym is) in omega (arith, below)
    go Equal is f = let same = ranked a.0 b.0 Equal (sym is) in omega (arith, same)
    go Greater is f = absurd (true≢false f)

at_least : (a b : Stamp) → is_lt (stamp_cmp a b) ≡ false → b.0 ≤ a.0
at_least a b e = go (stamp_cmp a b) refl e
  where
    go : (o : Ordering) → stamp_cmp a b ≡ o → is_lt o ≡ false → b.0 ≤ a.0
    go Less is f = absurd (true≢false f)
    go Equal is f = let same = ranked a.0 b.0 Equal (sym is) in omega (arith, same)
    go Greater is f = let above = ranked a.0 b.0 Greater (sym is) in omega (arith, above)

module _ (ds : List Dated) (stamp : Stamp) where
  pub nearest_before : (r : Option Dated) → IsLastBelow stamp_cmp ds stamp r → IsNearestBefore ds stamp r
  nearest_before None none = λ d c. at_most stamp d.0 (none d c)
  nearest_before (Some d) last = (last.0, ranked stamp.0 d.0.0 Greater (sym last.1), λ e c lt. at_least d.0 e.0 (last.2 e c (greater stamp e.0 lt)))

  pub nearest_after : (r : Option Dated) → IsFirstAbove stamp_cmp ds stamp r → IsNearestAfter ds stamp r
  nearest_after None none = λ d c. at_least stamp d.0 (none d c)
  nearest_after (Some d) first = (first.0, ranked stamp.0 d.0.0 Less (sym first.1), λ e c lt. at_most d.0 e.0 (first.2 e c (less stamp e.0 lt)))
