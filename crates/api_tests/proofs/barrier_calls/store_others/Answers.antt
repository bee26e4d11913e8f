use Rattle.api_tests.proofs.BarrierTest.{bears, born, first_static, first_static_done, guest_done, guest_ready, guest_there, host_done, host_ready, host_there, second_static, second_static_done, text_done, text_ready}
use Rattle.api_tests.proofs.barrier_calls.store_others.Goals as goal

pub store_monitor-requires-clause-there : goal.store_monitor-requires-clause-there
store_monitor-requires-clause-there c = host_there c.args.phase c.requires.heap c.address.ensures

pub store_monitor-requires-clause-ready : goal.store_monitor-requires-clause-ready
store_monitor-requires-clause-ready c = host_ready c.args.phase c.requires.heap c.address.ensures

pub store_monitor-requires-2-clause-there : goal.store_monitor-requires-2-clause-there
store_monitor-requires-2-clause-there c =
    let first = host_done c.args.phase c.requires.heap c.address.ensures c.store_monitor.ensures in
    guest_there c.args.phase first c.address-2.ensures

pub store_monitor-requires-2-clause-ready : goal.store_monitor-requires-2-clause-ready
store_monitor-requires-2-clause-ready c =
    let first = host_done c.args.phase c.requires.heap c.address.ensures c.store_monitor.ensures in
    guest_ready c.args.phase first c.address-2.ensures

pub store_monitor-requires-3-clause-ready : goal.store_monitor-requires-3-clause-ready
store_monitor-requires-3-clause-ready c =
    let first = host_done c.args.phase c.requires.heap c.address.ensures c.store_monitor.ensures in
    let second = guest_done c.args.phase first c.address-2.ensures c.store_monitor-2.ensures in
    text_ready c.args.phase second c.address-3.ensures

pub store_static-requires-clause-ready : goal.store_static-requires-clause-ready
store_static-requires-clause-ready c =
    let first = host_done c.args.phase c.requires.heap c.address.ensures c.store_monitor.ensures in
    let second = guest_done c.args.phase first c.address-2.ensures c.store_monitor-2.ensures in
    let third = text_done c.args.phase second c.address-3.ensures c.store_monitor-3.ensures in
    first_static c.args.phase third c.address-4.ensures

pub store_static-requires-2-clause-ready : goal.store_static-requires-2-clause-ready
store_static-requires-2-clause-ready c =
    let first = host_done c.args.phase c.requires.heap c.address.ensures c.store_monitor.ensures in
    let second = guest_done c.args.phase first c.address-2.ensures c.store_monitor-2.ensures in
    let third = text_done c.args.phase second c.address-3.ensures c.store_monitor-3.ensures in
    let static = first_static_done c.args.phase third c.requires.statics c.address-4.ensures c.store_static.ensures in
    second_static c.args.phase static c.address-5.ensures

pub birth-requires : goal.birth-requires
birth-requires c =
    let first = host_done c.args.phase c.requires.heap c.address.ensures c.store_monitor.ensures in
    let second = guest_done c.args.phase first c.address-2.ensures c.store_monitor-2.ensures in
    let third = text_done c.args.phase second c.address-3.ensures c.store_monitor-3.ensures in
    let static = first_static_done c.args.phase third c.requires.statics c.address-4.ensures c.store_static.ensures in
    let statics = second_static_done c.args.phase static c.address-5.ensures c.store_static-2.ensures in
    bears c.args.phase statics

pub returns : goal.returns
returns c =
    let first = host_done c.args.phase c.requires.heap c.address.ensures c.store_monitor.ensures in
    let second = guest_done c.args.phase first c.address-2.ensures c.store_monitor-2.ensures in
    let third = text_done c.args.phase second c.address-3.ensures c.store_monitor-3.ensures in
    let static = first_static_done c.args.phase third c.requires.statics c.address-4.ensures c.store_static.ensures in
    let statics = second_static_done c.args.phase static c.address-5.ensures c.store_static-2.ensures in
    let all = born c.args.phase statics c.birth.ensures in
    all
