pub mod BundleCheck
