pub mod DesignFaults
