use Rattle.api_tests.proofs.BarrierTest.{first_int, first_int_done, first_ref_done, first_value, first_value_done, int_inside, second_inside, second_int, second_int_done, second_ref, second_ref_done, second_value, second_value_done}
use Rattle.api_tests.proofs.barrier_calls.store_slots.Goals as goal

pub store_ref-requires-2-clause-ready : goal.store_ref-requires-2-clause-ready
store_ref-requires-2-clause-ready c =
    let ref = first_ref_done c.args.phase c.requires c.address-host.ensures c.address-guest.ensures c.store_ref.ensures in
    second_ref c.args.phase ref c.address-host_copied.ensures c.address-guest.ensures

pub store_value-requires-clause-ready : goal.store_value-requires-clause-ready
store_value-requires-clause-ready c =
    let ref = first_ref_done c.args.phase c.requires c.address-host.ensures c.address-guest.ensures c.store_ref.ensures in
    let refs = second_ref_done c.args.phase ref c.address-host_copied.ensures c.address-guest.ensures c.store_ref-2.ensures in
    first_value c.args.phase refs c.address-host.ensures c.address.ensures

pub store_value-requires-2-clause-inside : goal.store_value-requires-2-clause-inside
store_value-requires-2-clause-inside c =
    let ref = first_ref_done c.args.phase c.requires c.address-host.ensures c.address-guest.ensures c.store_ref.ensures in
    let refs = second_ref_done c.args.phase ref c.address-host_copied.ensures c.address-guest.ensures c.store_ref-2.ensures in
    let value = first_value_done c.args.phase refs c.address-host.ensures c.address.ensures c.store_value.ensures in
    second_inside c.args.phase value c.address-host_copied.ensures

pub store_value-requires-2-clause-ready : goal.store_value-requires-2-clause-ready
store_value-requires-2-clause-ready c =
    let ref = first_ref_done c.args.phase c.requires c.address-host.ensures c.address-guest.ensures c.store_ref.ensures in
    let refs = second_ref_done c.args.phase ref c.address-host_copied.ensures c.address-guest.ensures c.store_ref-2.ensures in
    let value = first_value_done c.args.phase refs c.address-host.ensures c.address.ensures c.store_value.ensures in
    second_value c.args.phase value c.address-host_copied.ensures c.address-2.ensures

pub store_int-requires-clause-ready : goal.store_int-requires-clause-ready
store_int-requires-clause-ready c =
    let ref = first_ref_done c.args.phase c.requires c.address-host.ensures c.address-guest.ensures c.store_ref.ensures in
    let refs = second_ref_done c.args.phase ref c.address-host_copied.ensures c.address-guest.ensures c.store_ref-2.ensures in
    let value = first_value_done c.args.phase refs c.address-host.ensures c.address.ensures c.store_value.ensures in
    let values = second_value_done c.args.phase value c.address-host_copied.ensures c.address-2.ensures c.store_value-2.ensures in
    first_int c.args.phase values c.address-host.ensures

pub store_int-requires-2-clause-inside : goal.store_int-requires-2-clause-inside
store_int-requires-2-clause-inside c =
    let ref = first_ref_done c.args.phase c.requires c.address-host.ensures c.address-guest.ensures c.store_ref.ensures in
    let refs = second_ref_done c.args.phase ref c.address-host_copied.ensures c.address-guest.ensures c.store_ref-2.ensures in
    let value = first_value_done c.args.phase refs c.address-host.ensures c.address.ensures c.store_value.ensures in
    let values = second_value_done c.args.phase value c.address-host_copied.ensures c.address-2.ensures c.store_value-2.ensures in
    let int = first_int_done c.args.phase values c.address-host.ensures c.store_int.ensures in
    int_inside c.args.phase int c.address-host_copied.ensures

pub store_int-requires-2-clause-ready : goal.store_int-requires-2-clause-ready
store_int-requires-2-clause-ready c =
    let ref = first_ref_done c.args.phase c.requires c.address-host.ensures c.address-guest.ensures c.store_ref.ensures in
    let refs = second_ref_done c.args.phase ref c.address-host_copied.ensures c.address-guest.ensures c.store_ref-2.ensures in
    let value = first_value_done c.args.phase refs c.address-host.ensures c.address.ensures c.store_value.ensures in
    let values = second_value_done c.args.phase value c.address-host_copied.ensures c.address-2.ensures c.store_value-2.ensures in
    let int = first_int_done c.args.phase values c.address-host.ensures c.store_int.ensures in
    second_int c.args.phase int c.address-host_copied.ensures

pub returns : goal.returns
returns c =
    let ref = first_ref_done c.args.phase c.requires c.address-host.ensures c.address-guest.ensures c.store_ref.ensures in
    let refs = second_ref_done c.args.phase ref c.address-host_copied.ensures c.address-guest.ensures c.store_ref-2.ensures in
    let value = first_value_done c.args.phase refs c.address-host.ensures c.address.ensures c.store_value.ensures in
    let values = second_value_done c.args.phase value c.address-host_copied.ensures c.address-2.ensures c.store_value-2.ensures in
    let int = first_int_done c.args.phase values c.address-host.ensures c.store_int.ensures in
    let ints = second_int_done c.args.phase int c.address-host_copied.ensures c.store_int-2.ensures in
    ints
