pub mod CpuTable
