-- Each leg in turn, and the way back at the end.
use Rattle.std.proofs.Common.{arith}
use Rattle.legs.proofs.Aims.{no_legs_is, found_none, asks, turn, ends}
use Rattle.legs.proofs.legs_from.Goals as goal

pub returns-then-alone : goal.returns-then-alone
returns-then-alone c w = no_legs_is w _ c.requires.aims_len c.if-alone.true

pub loop-a-init : goal.loop-a-init
loop-a-init c w = found_none w _ c.requires.aims_len _ c.firsts_reached-low.ensures

pub nearest-requires : goal.nearest-requires
nearest-requires c = asks c.requires.some_parts _ (c.loop-a.invariant c.requires.some_parts)

pub bounds-network-i : goal.bounds-network-i
bounds-network-i c = omega (arith, (turn c.requires.some_parts _ (c.loop-a.invariant c.requires.some_parts) c.in-Some.a c.in-Some.ensures).label_low)

pub offset_bounds-aims-k : goal.offset_bounds-aims-k
offset_bounds-aims-k c = omega (arith, (turn c.requires.some_parts _ (c.loop-a.invariant c.requires.some_parts) c.in-Some.a c.in-Some.ensures).room)

pub bounds-aims-k : goal.bounds-aims-k
bounds-aims-k c = omega (arith, (turn c.requires.some_parts _ (c.loop-a.invariant c.requires.some_parts) c.in-Some.a c.in-Some.ensures).room)

pub overflow_add-k : goal.overflow_add-k
overflow_add-k c = omega (arith, (turn c.requires.some_parts _ (c.loop-a.invariant c.requires.some_parts) c.in-Some.a c.in-Some.ensures).room)

pub bounds-network-u : goal.bounds-network-u
bounds-network-u c = omega (arith, (turn c.requires.some_parts _ (c.loop-a.invariant c.requires.some_parts) c.in-Some.a c.in-Some.ensures).from_low)

pub bounds-network-x : goal.bounds-network-x
bounds-network-x c = omega (arith, (turn c.requires.some_parts _ (c.loop-a.invariant c.requires.some_parts) c.in-Some.a c.in-Some.ensures).tail_low)

pub overflow_add-hops-in-Some : goal.overflow_add-hops-in-Some
overflow_add-hops-in-Some c = omega (arith, (turn c.requires.some_parts _ (c.loop-a.invariant c.requires.some_parts) c.in-Some.a c.in-Some.ensures).short)

pub bounds-network-i-in-Some : goal.bounds-network-i-in-Some
bounds-network-i-in-Some c = omega (arith, (turn c.requires.some_parts _ (c.loop-a.invariant c.requires.some_parts) c.in-Some.a c.in-Some.ensures).label_low)

pub bounds-low-x : goal.bounds-low-x
bounds-low-x c = omega (arith, (turn c.requires.some_parts _ (c.loop-a.invariant c.requires.some_parts) c.in-Some.a c.in-Some.ensures).tail_low)

pub bounds-network-i-in-Some-2 : goal.bounds-network-i-in-Some-2
bounds-network-i-in-Some-2 c = omega (arith, (turn c.requires.some_parts _ (c.loop-a.invariant c.requires.some_parts) c.in-Some.a c.in-Some.ensures).label_low)

pub loop-a-smaller : goal.loop-a-smaller
loop-a-smaller c = omega (arith, (turn c.requires.some_parts _ (c.loop-a.invariant c.requires.some_parts) c.in-Some.a c.in-Some.ensures).room)

pub loop-a-preserved : goal.loop-a-preserved
loop-a-preserved c w = (turn w _ (c.loop-a.invariant w) c.in-Some.a c.in-Some.ensures).again

pub overflow_cast-result : goal.overflow_cast-result
overflow_cast-result c = omega (arith, (ends c.requires.some_parts _ (c.loop-a.invariant c.requires.some_parts) c.in_default.ensures).room)

pub bounds-network-u-in_default : goal.bounds-network-u-in_default
bounds-network-u-in_default c = omega (arith, (ends c.requires.some_parts _ (c.loop-a.invariant c.requires.some_parts) c.in_default.ensures).from_low)

pub overflow_add-result : goal.overflow_add-result
overflow_add-result c = omega (arith, (ends c.requires.some_parts _ (c.loop-a.invariant c.requires.some_parts) c.in_default.ensures).short)

pub returns : goal.returns
returns c w = (ends w _ (c.loop-a.invariant w) c.in_default.ensures).added
